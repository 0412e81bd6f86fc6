-- What the calls of a line come to, in numbers.
use Rattle.std.proofs.Common.{◌≡◌, ℕ, ◌%◌, ◌^◌, Bool, true, List, [], ◌∷◌, ◌++◌, length, refl, sym, ap, ◌∙◌, true≢false, append-nil, arith}
use Rattle.std.specs.Prelude.{All, None}
use Rattle.std.proofs.lemmas.List.Elements.{All-head, All-tail}
use Rattle.qs_part.specs.declared.event.Actor.{Actor}
use Rattle.qs_part.specs.declared.event.Event.TheVariants as event
use Rattle.qs_part.specs.declared.event.Outcome.{Outcome}
use Rattle.qs_part.specs.declared.event.Outcome.TheVariants as outcome
use Rattle.qs_calls.specs.Calls.{Call, Happened}
use Rattle.qs_calls.specs.Goings.{GoesOn, RunsOut, goes_on}
use Rattle.qs_replay_lines.specs.Numbers.{Tells, answers_by, answers_in, each, ended_by, quiet, steps_by, steps_in}
use Rattle.qs_replay_lines.specs.declared.told.LineTold.{LineTold}

-- calls that are no steps
pub quiet_tells : (calls : List Call) (told : LineTold) → told ≡ quiet → steps_in calls ≡ 0 → answers_in calls ≡ [] → Tells calls told
quiet_tells calls told is steps answers = record {
  steps_are = ap (λ (t : LineTold). t.steps) is ∙ sym (ap (λ (n : ℕ). n % 2 ^ 64) steps);
  answers_are = answers ∙ sym (ap (λ (t : LineTold). each t.ended) is);
}

-- a step tells whether it answered
pub step_tells : (a : Actor) (now : ℕ) (o : Outcome) (told : LineTold) → told ≡ record { steps = 1; ended = ended_by o } →
    Tells (Happened (event.Step a now) o ∷ []) told
step_tells a now o told is = record {
  steps_are = ap (λ (t : LineTold). t.steps) is;
  answers_are = append-nil (each (ended_by o)) ∙ sym (ap (λ (t : LineTold). each t.ended) is);
}

-- an outcome that goes on answers nothing
on_none : (o : Outcome) → goes_on o ≡ true → ended_by o ≡ None
on_none (outcome.Answered v told) on = absurd (true≢false (sym on))
on_none _ on = refl

-- calls that go on are steps and answer nothing, and the last one is a step
on_last : (a : Actor) (now : ℕ) (o : Outcome) (front : List Call) → All (GoesOn (event.Step a now)) front →
    (steps_in (front ++ Happened (event.Step a now) o ∷ []) ≡ length (front ++ Happened (event.Step a now) o ∷ [])) ×
    (answers_in (front ++ Happened (event.Step a now) o ∷ []) ≡ each (ended_by o))
on_last a now o [] on = (refl, append-nil (each (ended_by o)))
on_last a now o (c ∷ front) on =
    let one = All-head (GoesOn (event.Step a now)) c front on in
    let rest = on_last a now o front (All-tail (GoesOn (event.Step a now)) c front on) in
    let whole : List Call = front ++ Happened (event.Step a now) o ∷ [] in
    let is_step : steps_by c ≡ 1 = ap steps_by one.is in
    let answers_none : answers_by c ≡ [] = ap answers_by one.is ∙ ap each (on_none one.outcome one.on) in (
      omega (arith, is_step, rest.0),
      ap (λ (l : List Bool). l ++ answers_in whole) answers_none ∙ rest.1,
    )

-- a run tells its steps and whether the last one answered
pub run_tells : (a : Actor) (now : ℕ) (o : Outcome) (calls : List Call) (told : LineTold) (count : ℕ) → RunsOut (event.Step a now) calls o →
    count ≡ length calls % 2 ^ 64 → told ≡ record { steps = count; ended = ended_by o } → Tells calls told
run_tells a now o calls told count out counted is =
    let both = on_last a now o out.front out.on in
    record {
      steps_are = ap (λ (t : LineTold). t.steps) is ∙ counted ∙ sym (ap (λ (n : ℕ). n % 2 ^ 64) (ap steps_in out.whole ∙ both.0 ∙ sym (ap length out.whole)));
      answers_are = ap answers_in out.whole ∙ both.1 ∙ sym (ap (λ (t : LineTold). each t.ended) is);
    }
