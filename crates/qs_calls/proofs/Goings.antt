-- One call more that goes on.
use Rattle.std.proofs.Common.{◌≡◌, ℕ, ◌+◌, ◌%◌, ◌^◌, List, [], ◌∷◌, ◌++◌, true, refl, length, arith}
use Rattle.std.proofs.lemmas.List.{length-append}
use Rattle.std.specs.Prelude.{All}
use Rattle.qs_part.specs.declared.event.Event.{Event}
use Rattle.qs_part.specs.declared.event.Outcome.{Outcome}
use Rattle.qs_calls.specs.Calls.{Call, Happened}
use Rattle.qs_calls.specs.Goings.{GoesOn, goes_on}
use Rattle.std.proofs.lemmas.List.Elements.{All-append, All-cons, All-nil}

one_goes : (made : Event) (o : Outcome) → goes_on o ≡ true → All (GoesOn made) (Happened made o ∷ [])
one_goes made o goes = All-cons (GoesOn made) (Happened made o) [] (record { outcome = o; is = refl; on = goes }) (All-nil (GoesOn made))

pub goes_more : (made : Event) (o : Outcome) (front : List Call) → All (GoesOn made) front → goes_on o ≡ true → All (GoesOn made) (front ++ Happened made o ∷ [])
goes_more made o front on goes = All-append (GoesOn made) front (Happened made o ∷ []) on (one_goes made o goes)

-- it is counted
pub counted_more : (calls : List Call) (c : Call) (count next : ℕ) → next ≡ (count + 1) % 2 ^ 64 → count ≡ length calls % 2 ^ 64 →
    next ≡ length (calls ++ c ∷ []) % 2 ^ 64
counted_more calls c count next is so =
    let more : length (calls ++ c ∷ []) ≡ length calls + 1 = length-append calls (c ∷ []) in
    omega (arith, is, so, more)
