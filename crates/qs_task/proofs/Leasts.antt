-- The least number above another that a live request has.
use Rattle.std.proofs.Common.{◌≡◌, ◌≢◌, ℕ, ◌<◌, ◌≤◌, ◌⊎◌, inl, inr, Bool, true, false, true≢false, List, [], ◌∷◌, ◌++◌, refl, sym, ap, ◌∙◌, subst, arith, cond}
use Rattle.std.specs.Prelude.{Option, Some, None, IsSome, nat_le, ◌==◌, is_some}
use Rattle.std.proofs.lemmas.Bool.Decides.{nat_tests}
use Rattle.qs_model.proofs.Basics.{choose, same_or}
use Rattle.qs_model.specs.Requests.{Req}
use Rattle.qs_task.specs.Tasks.{TaskValue}
use Rattle.qs_task.specs.Crews.{NextAbove, lesser_above, live_by_number}
use Rattle.qs_task.proofs.Crewing.{request_here, request_past}

le_true : (a b : ℕ) → nat_le a b ≡ true → a ≤ b
le_true a b is = grind (arith, nat_tests, is)

le_false : (a b : ℕ) → nat_le a b ≡ false → b < a
le_false a b is = grind (arith, nat_tests, is)

-- one more at the end of the list
append_none : (m : ℕ) (live : List TaskValue) (t : TaskValue) → live_by_number m live ≡ None → t.number ≢ m →
    live_by_number m (live ++ t ∷ []) ≡ None
append_none m [] t none other = request_past m t [] other
append_none m (x ∷ live) t none other = elim (same_or x.number m) [
  | inl e ↦ let found : live_by_number m (x ∷ live) ≡ Some x.request = request_here m x live e in (cc)
  | inr n ↦ request_past m x (live ++ t ∷ []) n ∙ append_none m live t (sym (request_past m x live n) ∙ none) other
]

append_some : (m : ℕ) (live : List TaskValue) (t : TaskValue) → IsSome (live_by_number m live) →
    IsSome (live_by_number m (live ++ t ∷ []))
append_some m [] t some = absurd (true≢false (sym some))
append_some m (x ∷ live) t some = elim (same_or x.number m) [
  | inl e ↦ ap is_some (request_here m x (live ++ t ∷ []) e)
  | inr n ↦ ap is_some (request_past m x (live ++ t ∷ []) n)
      ∙ append_some m live t (sym (ap is_some (request_past m x live n)) ∙ some)
]

append_here : (m : ℕ) (live : List TaskValue) (t : TaskValue) → t.number ≡ m → IsSome (live_by_number m (live ++ t ∷ []))
append_here m [] t is = ap is_some (request_here m t [] is)
append_here m (x ∷ live) t is = elim (same_or x.number m) [
  | inl e ↦ ap is_some (request_here m x (live ++ t ∷ []) e)
  | inr n ↦ ap is_some (request_past m x (live ++ t ∷ []) n) ∙ append_here m live t is
]

pub next_more : (low : ℕ) (live : List TaskValue) (t : TaskValue) (least : Option ℕ) → NextAbove low live least →
    NextAbove low (live ++ t ∷ []) (lesser_above low least t.number)
next_more low live t None none =
    choose (λ (o : Option ℕ). NextAbove low (live ++ t ∷ []) o) (nat_le t.number low) None (Some t.number)
    (λ is m lt. append_none m live t (none m lt) (let le : t.number ≤ low = le_true t.number low is in λ e. omega arith))
    (λ is. (le_false t.number low is, append_here t.number live t refl, λ m lt up. append_none m live t (none m lt) (λ e. omega arith)))
next_more low live t (Some n) next =
    choose (λ (o : Option ℕ). NextAbove low (live ++ t ∷ []) o) (nat_le t.number low) (Some n) _
    (λ is. let le : t.number ≤ low = le_true t.number low is in (
      next.0,
      append_some n live t next.1,
      λ m lt up. append_none m live t (next.2 m lt up) (λ e. omega arith),
    ))
    (λ is. choose (λ (o : Option ℕ). NextAbove low (live ++ t ∷ []) o) (nat_le n t.number) (Some n) (Some t.number)
    (λ first. let le : n ≤ t.number = le_true n t.number first in (
      next.0,
      append_some n live t next.1,
      λ m lt up. append_none m live t (next.2 m lt up) (λ e. omega arith),
    ))
    (λ first. let lt' : t.number < n = le_false n t.number first in (
      le_false t.number low is,
      append_here t.number live t refl,
      λ m lt up. append_none m live t (next.2 m lt (omega arith)) (λ e. omega arith),
    )))
