-- A block after a span's bytes were written over it.
use Rattle.std.proofs.Common.{◌≡◌, ℕ, ◌+◌, ◌-◌, ◌^◌, ◌<◌, ◌≤◌, inl, inr, List, [], ◌++◌, replicate, length, take, drop, get_or, Bool, true, false, cond, refl, sym, ◌∙◌, ap, arith, append_assoc}
use Rattle.std.specs.Prelude.{nat_le, nat_lt, ◌&&◌, min, max}
use Rattle.std.specs.List.{between}
use Rattle.std.proofs.lemmas.Bool.Decides.{nat_tests}
use Rattle.std.proofs.lemmas.Bool.{cases_lt}
use Rattle.std.proofs.lemmas.List.{drop-drop, drop-replicate, take-replicate, get_or-replicate, get_or_past, length-replicate}
use Rattle.std.proofs.lemmas.List.Edits.{length-between, get_or-between}
use borrow.Rule.Slice.PartMut.{put_mid}
use Rattle.qs_bytes.specs.Pieces.{overlay}
use Rattle.qs_bytes.specs.Spans.{Places}
use Rattle.qs_bytes.proofs.Overlays.{get_or-overlay_before, get_or-overlay_inside, get_or-overlay_behind}
use Rattle.qs_padding.specs.Padding.{merged_at}

-- a write to a part of a block is the piece over the block
pub is_overlay : (a k : ℕ) (old piece : List ℕ) → length piece ≡ k → put_mid a k old piece ≡ overlay old a piece
unfolding overlay
is_overlay a k old piece is =
    ap (λ (rest : List ℕ). take a old ++ (piece ++ rest)) (drop-drop k a old ∙ ap (λ (n : ℕ). drop (a + n) old) (sym is))
    ∙ sym (append_assoc (take a old) piece (drop (a + length piece) old))

-- a place that the span doesn't cover
pub merged_out : (s : Places) (bytes : List ℕ) (x old : ℕ) → (s.lo ≤ x → x < s.hi → ⊥) → merged_at s bytes x old ≡ old
merged_out s bytes x old out = go (nat_le s.lo x) (nat_lt x s.hi) refl refl
  where
    go : (a b : Bool) → nat_le s.lo x ≡ a → nat_lt x s.hi ≡ b → cond (a && b) (get_or bytes (x - s.lo) 0) old ≡ old
    go true true e f =
        let low : s.lo ≤ x = grind (arith, nat_tests) in
        let high : x < s.hi = grind (arith, nat_tests) in
        absurd (out low high)
    go true false e f = refl
    go false b e f = refl

-- a place that it covers
pub merged_in : (s : Places) (bytes : List ℕ) (x old : ℕ) → s.lo ≤ x → x < s.hi → merged_at s bytes x old ≡ get_or bytes (x - s.lo) 0
merged_in s bytes x old low high = go (nat_le s.lo x) (nat_lt x s.hi) refl refl
  where
    go : (a b : Bool) → nat_le s.lo x ≡ a → nat_lt x s.hi ≡ b → cond (a && b) (get_or bytes (x - s.lo) 0) old ≡ get_or bytes (x - s.lo) 0
    go true true e f = refl
    go true false e f = absurd (grind (arith, nat_tests))
    go false b e f = absurd (grind (arith, nat_tests))

-- the covered bytes of a block, written over it
pub merged : (s : Places) (old bytes : List ℕ) (start from to i : ℕ) → s.lo + length bytes ≡ s.hi → from ≡ max s.lo start →
    to ≡ min s.hi (start + length old) → from < to → i < length old →
    get_or (overlay old (from - start) (between (from - s.lo) (to - s.lo) bytes)) i 0 ≡ merged_at s bytes (start + i) (get_or old i 0)
merged s old bytes start from to i whole first last some inside = go (nat_lt i (from - start)) (nat_lt i (to - start)) refl refl
  where
    low : s.lo ≤ from
    low = omega (arith, first)

    begins : start ≤ from
    begins = omega (arith, first)

    high : to ≤ s.hi
    high = omega (arith, last)

    ends : to ≤ start + length old
    ends = omega (arith, last)

    long : length (between (from - s.lo) (to - s.lo) bytes) ≡ to - from
    long = length-between bytes (from - s.lo) (to - s.lo) (omega (arith, whole, high)) ∙ omega (arith, low, some)

    at : from - start ≤ length old
    at = omega (arith, ends, begins, some)

    fits : from - start + length (between (from - s.lo) (to - s.lo) bytes) ≤ length old
    fits = omega (arith, long, ends, begins, some)

    go : (p q : Bool) → nat_lt i (from - start) ≡ p → nat_lt i (to - start) ≡ q →
        get_or (overlay old (from - start) (between (from - s.lo) (to - s.lo) bytes)) i 0 ≡ merged_at s bytes (start + i) (get_or old i 0)
    go true q e f =
        let before : i < from - start = grind (arith, nat_tests) in
        let out : s.lo ≤ start + i → start + i < s.hi → ⊥ = λ h _. omega (arith, first, before, h) in
        get_or-overlay_before old (from - start) (between (from - s.lo) (to - s.lo) bytes) i at before
        ∙ sym (merged_out s bytes (start + i) (get_or old i 0) out)
    go false true e f =
        let after : from - start ≤ i = grind (arith, nat_tests) in
        let below : i < to - start = grind (arith, nat_tests) in
        let here : from - s.lo + (i - (from - start)) ≡ start + i - s.lo = omega (arith, low, begins, after) in
        get_or-overlay_inside old (from - start) (between (from - s.lo) (to - s.lo) bytes) i at after (omega (arith, long, after, below, begins))
        ∙ get_or-between bytes (from - s.lo) (to - s.lo) (i - (from - start)) 0 (omega (arith, low, begins, after, below))
        ∙ ap (λ (k : ℕ). get_or bytes k 0) here
        ∙ sym (merged_in s bytes (start + i) (get_or old i 0) (omega (arith, low, begins, after)) (omega (arith, high, below)))
    go false false e f =
        let behind : to - start ≤ i = grind (arith, nat_tests) in
        let out : s.lo ≤ start + i → start + i < s.hi → ⊥ = λ _ h. omega (arith, last, behind, h, inside, begins, some) in
        get_or-overlay_behind old (from - start) (between (from - s.lo) (to - s.lo) bytes) i fits (omega (arith, long, behind, begins, some))
        ∙ sym (merged_out s bytes (start + i) (get_or old i 0) out)

-- the same, of the values that the code works with: a sum of the block's end that doesn't pass 2^64 - 1
pub merged_block : (s : Places) (old bytes copied : List ℕ) (lo hi product start from to i : ℕ) → lo ≡ s.lo → hi ≡ s.hi → hi < 2 ^ 64 → start ≡ product →
    s.lo + length bytes ≡ s.hi → from ≡ max lo start → to ≡ min hi (min (start + length old) (2 ^ 64 - 1)) → from < to →
    copied ≡ between (from - lo) (to - lo) bytes → i < length old →
    get_or (put_mid (from - start) (to - start - (from - start)) old copied) i 0 ≡ merged_at s bytes (product + i) (get_or old i 0)
merged_block s old bytes copied lo hi product start from to i low high small begin whole first last some is inside =
    let from_is : from ≡ max s.lo start = omega (arith, first, low) in
    let to_is : to ≡ min s.hi (start + length old) = omega (arith, last, high, small) in
    let below : to - lo ≤ length bytes = omega (arith, whole, low, to_is) in
    let long : length copied ≡ to - start - (from - start) =
    ap length is ∙ length-between bytes (from - lo) (to - lo) below ∙ omega (arith, from_is, low, some) in
    let piece : copied ≡ between (from - s.lo) (to - s.lo) bytes = is ∙ ap (λ (k : ℕ). between (from - k) (to - k) bytes) low in
    ap (λ (xs : List ℕ). get_or xs i 0)
    (is_overlay (from - start) (to - start - (from - start)) old copied long ∙ ap (λ (xs : List ℕ). overlay old (from - start) xs) piece)
    ∙ merged s old bytes start from to i whole from_is to_is some inside
    ∙ ap (λ (k : ℕ). merged_at s bytes (k + i) (get_or old i 0)) begin

-- a span's bytes where all of them are zero
abbrev pub zeros : ℕ → List ℕ
zeros n = replicate n 0

-- zeros have the same byte at each place as no bytes
pub merged_zeros : (s : Places) (n x old : ℕ) → merged_at s (zeros n) x old ≡ merged_at s [] x old
merged_zeros s n x old = ap (λ (v : ℕ). cond (nat_le s.lo x && nat_lt x s.hi) v old) (zero_at n (x - s.lo))
  where
    zero_at : (n k : ℕ) → get_or (zeros n) k 0 ≡ get_or [] k 0
    zero_at n k = elim (cases_lt k n) [
      | inl below ↦ get_or-replicate n k 0 0 below
      | inr past ↦ get_or_past (zeros n) k 0 (omega (arith, length-replicate {A = ℕ} n 0))
    ]

-- a part of zeros is zeros
pub between_zeros : (n a b : ℕ) → a ≤ b → b ≤ n → between a b (zeros n) ≡ zeros (b - a)
between_zeros n a b order inside = ap (λ (xs : List ℕ). take (b - a) xs) (drop-replicate a n 0) ∙ take-replicate (b - a) (n - a) 0 (omega (arith, order, inside))

-- the same for zeros in the place of the span's bytes
pub cleared_block : (s : Places) (old : List ℕ) (lo hi product start from to n i : ℕ) → lo ≡ s.lo → hi ≡ s.hi → hi < 2 ^ 64 → start ≡ product →
    s.lo ≤ s.hi → from ≡ max lo start → to ≡ min hi (min (start + length old) (2 ^ 64 - 1)) → from < to → n ≡ to - from → i < length old →
    get_or (put_mid (from - start) (to - start - (from - start)) old (zeros n)) i 0 ≡ merged_at s [] (product + i) (get_or old i 0)
cleared_block s old lo hi product start from to n i low high small begin order first final some count inside =
    merged_block s old (zeros (s.hi - s.lo)) (zeros n) lo hi product start from to i low high small begin
    (ap (λ (m : ℕ). s.lo + m) (length-replicate {A = ℕ} (s.hi - s.lo) 0) ∙ omega (arith, order)) first final some
    (ap (λ (m : ℕ). zeros m) (omega (arith, count, first, some)) ∙ sym (between_zeros (s.hi - s.lo) (from - lo) (to - lo) (omega (arith, some)) (omega (arith, final, low, high)))) inside
    ∙ merged_zeros s (s.hi - s.lo) (product + i) (get_or old i 0)
