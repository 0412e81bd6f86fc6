-- The counts of calls, one list behind the other.
use Rattle.std.proofs.Common.{◌≡◌, ℕ, ◌+◌, ◌%◌, ◌^◌, Bool, true, false, List, [], ◌∷◌, ◌++◌, refl, sym, ap, ◌∙◌, arith, append_assoc}
use Rattle.qs_calls.specs.Calls.{Call}
use Rattle.qs_replay_lines.specs.Numbers.{answers_by, answers_in, errors_in, errors_of, steps_in}

pub steps_more : (calls more : List Call) → steps_in (calls ++ more) ≡ steps_in calls + steps_in more
steps_more [] more = omega arith
steps_more (c ∷ calls) more =
    let rest = steps_more calls more in
    omega (arith, rest)

answers_more : (calls more : List Call) → answers_in (calls ++ more) ≡ answers_in calls ++ answers_in more
answers_more [] more = refl
answers_more (c ∷ calls) more =
    ap (λ (l : List Bool). answers_by c ++ l) (answers_more calls more) ∙ sym (append_assoc (answers_by c) (answers_in calls) (answers_in more))

errors_join : (one two : List Bool) → errors_of (one ++ two) ≡ errors_of one + errors_of two
errors_join [] two = omega arith
errors_join (true ∷ one) two =
    let rest = errors_join one two in
    omega (arith, rest)
errors_join (false ∷ one) two = errors_join one two

pub errors_more : (calls more : List Call) → errors_in (calls ++ more) ≡ errors_in calls + errors_in more
errors_more calls more = ap errors_of (answers_more calls more) ∙ errors_join (answers_in calls) (answers_in more)

-- counts that were nothing at first, and those of a line more
pub one_line_more : (n calls more old new : ℕ) → old ≡ calls % 2 ^ 64 → new ≡ (old + more) % 2 ^ 64 → n ≡ calls + more → new ≡ n % 2 ^ 64
one_line_more n calls more old new is next sum = omega (arith, is, next, sum)
