use Rattle.std.proofs.Common.{◌≡◌, ℕ, ◌==◌, Bool, true, false, List, [], ◌∷◌, refl, ap, arith, Bor, Option, Some, None}
use Rattle.std.specs.Option.{MatchOption}
use Rattle.std.proofs.lemmas.Str.Pattern.{strip_prefix_char}
use Rattle.qs_keyval.specs.Cutting.{HasNoComma, comma}
use Rattle.qs_keyval.proofs.cutting.behind_comma.Goals as goal

other_byte : (e : Bool) (b : ℕ) → (b == comma) ≡ e → (b ≡ comma → ⊥) → (b == comma) ≡ false
other_byte true b is never = absurd (never (grind (arith, is)))
other_byte false b is never = is

other_first : (bs : List ℕ) → ((rest : List ℕ) → bs ≡ comma ∷ rest → ⊥) → HasNoComma bs
other_first [] never = tt
other_first (b ∷ bs) never = other_byte (b == comma) b refl (λ e. never bs (ap (λ x. x ∷ bs) e))

begins : (bs : List ℕ) (r : Option (Bor (List ℕ))) → MatchOption r ((rest : List ℕ) → bs ≡ comma ∷ rest → ⊥) (λ x. bs ≡ comma ∷ x.now) →
    MatchOption r (HasNoComma bs) (λ x. bs ≡ comma ∷ x.now)
begins bs None h = other_first bs h
begins bs (Some x) h = h

pub returns : goal.returns
returns c = begins c.args.text.now c.strip_prefix.result (strip_prefix_char comma c.args.text.now c.strip_prefix.result c.strip_prefix.ensures.cases (omega arith))
