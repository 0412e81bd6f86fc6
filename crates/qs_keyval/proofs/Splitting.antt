-- What std's words say of the first such byte, as the recursion says it.
use Rattle.std.proofs.Common.{◌≡◌, ℕ, ◌+◌, ◌<◌, ◌==◌, Bool, true, false, not, cond, if◌then◌else◌, List, [], ◌∷◌, length, take, drop, refl, ap, sym, ◌∙◌, arith, suc, Bor, Option, Some, None, option_map}
use Rattle.std.specs.Option.{MatchOption}
use Rattle.std.specs.List.{position_or_len, before_first, after_first}
use Rattle.qs_keyval.specs.Cutting.{sides, in_front, split_first}

none_step : (e : Bool) (c b : ℕ) (bs : List ℕ) (n : ℕ) → cond (not e) (1 + n) 0 ≡ suc (length bs) → (n ≡ length bs → split_first c bs ≡ None) →
    (if e then sides [] bs else option_map (in_front b) (split_first c bs)) ≡ None
none_step true c b bs n at again = absurd (omega (arith, at))
none_step false c b bs n at again = rw (again (omega (arith, at))) refl

split_none : (c : ℕ) (bs : List ℕ) → position_or_len (λ b. b == c) bs ≡ length bs → split_first c bs ≡ None
split_none c [] at = refl
split_none c (b ∷ bs) at = none_step (b == c) c b bs (position_or_len (λ b. b == c) bs) at (λ e. split_none c bs e)

some_step : (e : Bool) (c b : ℕ) (bs : List ℕ) (n : ℕ) → cond (not e) (1 + n) 0 < suc (length bs) →
    (n < length bs → split_first c bs ≡ sides (take n bs) (drop (n + 1) bs)) →
    (if e then sides [] bs else option_map (in_front b) (split_first c bs)) ≡
    sides (take (cond (not e) (1 + n) 0) (b ∷ bs)) (drop (cond (not e) (1 + n) 0 + 1) (b ∷ bs))
some_step true c b bs n at again = refl
some_step false c b bs n at again =
    let s : 1 + n ≡ suc n = omega arith in
    let t : suc n + 1 ≡ suc (n + 1) = omega arith in
    rw (again (omega (arith, at))) (rw s (rw t refl))

split_some : (c : ℕ) (bs : List ℕ) → position_or_len (λ b. b == c) bs < length bs →
    split_first c bs ≡ sides (before_first (λ b. b == c) bs) (after_first (λ b. b == c) bs)
split_some c [] at = absurd (omega (arith, at))
split_some c (b ∷ bs) at = some_step (b == c) c b bs (position_or_len (λ b. b == c) bs) at (λ e. split_some c bs e)

pub split_is : (c : ℕ) (bs : List ℕ) (r : Option (Bor (List ℕ) × Bor (List ℕ))) →
    MatchOption r (position_or_len (λ b. b == c) bs ≡ length bs)
    (λ x. (position_or_len (λ b. b == c) bs < length bs) × (x.0.now ≡ before_first (λ b. b == c) bs) × (x.1.now ≡ after_first (λ b. b == c) bs)) →
    option_map (λ x. (x.0.now, x.1.now)) r ≡ split_first c bs
split_is c bs None h = sym (split_none c bs h)
split_is c bs (Some x) h =
    ap (λ f. sides f x.1.now) h.1 ∙ ap (λ b. sides (before_first (λ b. b == c) bs) b) h.2 ∙ sym (split_some c bs h.0)
