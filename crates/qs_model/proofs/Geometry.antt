-- The blocks that a request reaches.
use Rattle.std.proofs.Common.{◌≡◌, ◌≢◌, ℕ, zero, suc, ◌+◌, ◌-◌, ◌*◌, ◌/◌, ◌%◌, min, ◌<◌, ◌≤◌, ◌⊎◌, inl, inr, Bool, true, false, not, ◌&&◌, ◌||◌, nat_lt, ◌==◌, refl, sym, ap, ◌∙◌, arith, true≢false, lt_of_lt_of_le, lt_of_le_of_lt}
use Rattle.qs_bytes.specs.Spans.{Covers, aligned_out}
use Rattle.qs_part.specs.declared.stripe.Side.{Side}
use Rattle.qs_part.specs.declared.stripe.Side.TheVariants.{Head, Tail}
use Rattle.qs_model.specs.Requests.{Client, span_of, covers, writes, edge, has, serial}
use Rattle.qs_model.proofs.Basics.{blocks_le, blocks_lt, same_or, block_at, block_low}

-- a block of the request's span, or one that it reaches at an end
pub record Reaches (A : ℕ) (c : Client) (b : ℕ) : Type 0 where
  pub first : edge A c Head ≤ b
  pub last : b ≤ edge A c Tail

pub head_low : (A : ℕ) (c : Client) → 0 < A → edge A c Head * A ≤ (span_of c).lo
unfolding edge
head_low A c h = omega arith

pub head_high : (A : ℕ) (c : Client) → 0 < A → (span_of c).lo < edge A c Head * A + A
unfolding edge
head_high A c h = omega arith

pub tail_low : (A : ℕ) (c : Client) → 0 < A → (span_of c).lo < (span_of c).hi → edge A c Tail * A < (span_of c).hi
unfolding edge
tail_low A c h some = omega arith

pub tail_high : (A : ℕ) (c : Client) → 0 < A → (span_of c).lo < (span_of c).hi → (span_of c).hi ≤ edge A c Tail * A + A
unfolding edge
tail_high A c h some = omega arith

pub head_reached : (A : ℕ) (c : Client) → 0 < A → (span_of c).lo < (span_of c).hi → edge A c Head ≤ edge A c Tail
head_reached A c h some =
    let a : edge A c Head * A ≤ (span_of c).lo = head_low A c h in
    let b : (span_of c).hi ≤ edge A c Tail * A + A = tail_high A c h some in
    let f : edge A c Tail < edge A c Head → ⊥ =
    λ l. let g : edge A c Tail * A + A ≤ edge A c Head * A = blocks_lt (edge A c Tail) (edge A c Head) A l in omega arith in
    omega arith

pub reaches_edge : (A : ℕ) (c : Client) (side : Side) → 0 < A → (span_of c).lo < (span_of c).hi → Reaches A c (edge A c side)
reaches_edge A c Head h some = record { first = omega arith; last = head_reached A c h some }
reaches_edge A c Tail h some = record { first = head_reached A c h some; last = omega arith }

pub covers_low : (c : Client) (x : ℕ) → covers c x ≡ true → (span_of c).lo ≤ x
covers_low c x is = grind (arith, is)

pub covers_high : (c : Client) (x : ℕ) → covers c x ≡ true → x < (span_of c).hi
covers_high c x is = grind (arith, is)

pub covers_not : (c : Client) (x : ℕ) → covers c x ≡ false → (x < (span_of c).lo) ⊎ ((span_of c).hi ≤ x)
covers_not c x is = grind (arith, is)

-- a covered place lies in a block that is reached
pub covered_reached : (A : ℕ) (c : Client) (b x : ℕ) → 0 < A → covers c x ≡ true → b * A ≤ x → x < b * A + A → Reaches A c b
covered_reached A c b x h is low high =
    let lo : (span_of c).lo ≤ x = covers_low c x is in
    let hi : x < (span_of c).hi = covers_high c x is in
    let some : (span_of c).lo < (span_of c).hi = omega arith in
    let head : edge A c Head * A ≤ (span_of c).lo = head_low A c h in
    let tail : (span_of c).hi ≤ edge A c Tail * A + A = tail_high A c h some in
    let f : b < edge A c Head → ⊥ = λ l. let g : b * A + A ≤ edge A c Head * A = blocks_lt b (edge A c Head) A l in omega arith in
    let g : edge A c Tail < b → ⊥ = λ l. let g : edge A c Tail * A + A ≤ b * A = blocks_lt (edge A c Tail) b A l in omega arith in
    record { first = omega arith; last = omega arith }

-- the end of the last block
pub rounded_up_le : (A hi q r n : ℕ) → q * A + r ≡ hi → r < A → n ≡ q + min 1 r → hi ≤ n * A
rounded_up_le A hi q zero n is low e = let g : q * A ≤ n * A = blocks_le q n A (omega arith) in omega arith
rounded_up_le A hi q (suc r) n is low e = let g : q * A + A ≤ n * A = blocks_lt q n A (omega arith) in omega arith

pub rounded_tail : (A hi : ℕ) → 0 < A → 0 < hi → ((hi - 1) / A) * A < (hi / A + min 1 (hi % A)) * A
rounded_tail A hi h some =
    let up : hi ≤ (hi / A + min 1 (hi % A)) * A =
    rounded_up_le A hi (hi / A) (hi % A) (hi / A + min 1 (hi % A)) (block_at hi A h) (omega arith) refl in
    let low : (hi - 1) / A * A ≤ hi - 1 = block_low (hi - 1) A h in
    lt_of_lt_of_le (lt_of_le_of_lt low (omega arith)) up

pub outward_low : (A : ℕ) (c : Client) (b : ℕ) → Reaches A c b → (span_of c).lo / A * A ≤ b * A
unfolding edge
outward_low A c b reach = blocks_le ((span_of c).lo / A) b A reach.first

pub outward_high : (A : ℕ) (c : Client) (b : ℕ) → 0 < A → (span_of c).lo < (span_of c).hi → Reaches A c b →
    b * A < ((span_of c).hi / A + min 1 ((span_of c).hi % A)) * A
unfolding edge
outward_high A c b h some reach =
    let g : b * A ≤ edge A c Tail * A = blocks_le b (edge A c Tail) A reach.last in
    let k : ((span_of c).hi - 1) / A * A < ((span_of c).hi / A + min 1 ((span_of c).hi % A)) * A =
    rounded_tail A (span_of c).hi h (omega arith) in
    omega arith

-- a reached block begins inside the whole blocks of the span
pub reached_outward : (A : ℕ) (c : Client) (b : ℕ) → 0 < A → (span_of c).lo < (span_of c).hi → Reaches A c b →
    Covers (aligned_out (span_of c) A) (b * A)
reached_outward A c b h some reach = (outward_low A c b reach, outward_high A c b h some reach)

-- the head's block isn't covered wholly
pub has_head : (A : ℕ) (c : Client) → ((span_of c).lo ≢ edge A c Head * A) ⊎ ((span_of c).hi < edge A c Head * A + A) → has A c Head ≡ true
unfolding has
has_head A c h = grind (arith, h)

pub has_tail : (A : ℕ) (c : Client) → edge A c Tail ≢ edge A c Head → (span_of c).hi < edge A c Tail * A + A → has A c Tail ≡ true
unfolding has
has_tail A c other short = grind (arith, other, short)

pub tail_other : (A : ℕ) (c : Client) → has A c Tail ≡ true → edge A c Tail ≢ edge A c Head
unfolding has
tail_other A c is = grind (arith, is)

pub before_head : (A : ℕ) (c : Client) (b x : ℕ) → 0 < A → Reaches A c b → b * A ≤ x → x < (span_of c).lo →
    (b ≡ edge A c Head) × (has A c Head ≡ true)
before_head A c b x h reach low before =
    let high : (span_of c).lo < edge A c Head * A + A = head_high A c h in
    let f : edge A c Head < b → ⊥ = λ l. let g : edge A c Head * A + A ≤ b * A = blocks_lt (edge A c Head) b A l in omega arith in
    let first : edge A c Head ≤ b = reach.first in
    let same : b ≡ edge A c Head = omega arith in
    let there : edge A c Head * A ≡ b * A = ap (λ (n : ℕ). n * A) (sym same) in
    (same, has_head A c (inl (λ e. omega arith)))

pub behind_tail : (A : ℕ) (c : Client) (b x : ℕ) → 0 < A → (span_of c).lo < (span_of c).hi → Reaches A c b → x < b * A + A → (span_of c).hi ≤ x →
    ((b ≡ edge A c Head) × (has A c Head ≡ true)) ⊎ ((b ≢ edge A c Head) × (b ≡ edge A c Tail) × (has A c Tail ≡ true))
behind_tail A c b x h some reach high behind =
    let low : edge A c Tail * A < (span_of c).hi = tail_low A c h some in
    let f : b < edge A c Tail → ⊥ = λ l. let g : b * A + A ≤ edge A c Tail * A = blocks_lt b (edge A c Tail) A l in omega arith in
    let last : b ≤ edge A c Tail = reach.last in
    let same : b ≡ edge A c Tail = omega arith in
    let there : edge A c Tail * A ≡ b * A = ap (λ (n : ℕ). n * A) (sym same) in
    elim (same_or b (edge A c Head)) [
      | inl e ↦ let here : edge A c Head * A ≡ b * A = ap (λ (n : ℕ). n * A) (sym e) in inl (e, has_head A c (inr (omega arith)))
      | inr n ↦ inr (n, same, has_tail A c (λ e. n (same ∙ e)) (omega arith))
    ]

pub same_eqb : (a b : ℕ) → (a == b) ≡ true → a ≡ b
same_eqb a b is = grind (arith, is)

pub head_test : (lo low hi A : ℕ) → lo ≡ low → low + A ≤ hi → not (lo == low) || nat_lt hi (low + A) ≡ false
head_test lo low hi A same long = grind (arith, same, long)

pub tail_test : (b : Bool) (hi up : ℕ) → up ≤ hi → b && nat_lt hi up ≡ false
tail_test true hi up long = grind (arith, long)
tail_test false hi up long = refl

pub whole_low : (A : ℕ) (c : Client) → 0 < A → (span_of c).lo % A ≡ 0 → edge A c Head * A ≡ (span_of c).lo
unfolding edge
whole_low A c h is = let e : (span_of c).lo / A * A + (span_of c).lo % A ≡ (span_of c).lo = block_at (span_of c).lo A h in omega arith

pub whole_high : (A : ℕ) (c : Client) → 0 < A → (span_of c).hi % A ≡ 0 → (span_of c).hi / A * A ≡ (span_of c).hi
whole_high A c h is = let e : (span_of c).hi / A * A + (span_of c).hi % A ≡ (span_of c).hi = block_at (span_of c).hi A h in omega arith

-- a place of a stored block that isn't covered is of the head, or else of the tail
pub outside : (A : ℕ) (c : Client) (b x : ℕ) → 0 < A → (span_of c).lo < (span_of c).hi → Reaches A c b → b * A ≤ x → x < b * A + A → covers c x ≡ false →
    ((b ≡ edge A c Head) × (has A c Head ≡ true)) ⊎ ((b ≢ edge A c Head) × (b ≡ edge A c Tail) × (has A c Tail ≡ true))
outside A c b x h some reach low high is =
    elim (covers_not c x is) [ inl before ↦ inl (before_head A c b x h reach low before) | inr behind ↦ behind_tail A c b x h some reach high behind ]

-- whole blocks have no head and no tail
pub aligned_head : (A : ℕ) (c : Client) → 0 < A → (span_of c).lo < (span_of c).hi → (span_of c).lo % A ≡ 0 → (span_of c).hi % A ≡ 0 → has A c Head ≡ false
unfolding has
aligned_head A c h some lo hi =
    let low : edge A c Head * A ≡ (span_of c).lo = whole_low A c h lo in
    let up : (span_of c).hi / A * A ≡ (span_of c).hi = whole_high A c h hi in
    let f : (span_of c).hi / A ≤ edge A c Head → ⊥ = λ l. let g : (span_of c).hi / A * A ≤ edge A c Head * A = blocks_le ((span_of c).hi / A) (edge A c Head) A l in omega arith in
    let g : edge A c Head * A + A ≤ (span_of c).hi / A * A = blocks_lt (edge A c Head) ((span_of c).hi / A) A (omega arith) in
    let k : edge A c Head * A + A ≤ (span_of c).hi = omega arith in
    head_test (span_of c).lo (edge A c Head * A) (span_of c).hi A (sym low) k

pub aligned_tail : (A : ℕ) (c : Client) → 0 < A → (span_of c).lo < (span_of c).hi → (span_of c).hi % A ≡ 0 → has A c Tail ≡ false
unfolding has
aligned_tail A c h some hi =
    let low : edge A c Tail * A < (span_of c).hi = tail_low A c h some in
    let up : (span_of c).hi / A * A ≡ (span_of c).hi = whole_high A c h hi in
    let f : (span_of c).hi / A ≤ edge A c Tail → ⊥ = λ l. let g : (span_of c).hi / A * A ≤ edge A c Tail * A = blocks_le ((span_of c).hi / A) (edge A c Tail) A l in omega arith in
    let g : edge A c Tail * A + A ≤ (span_of c).hi / A * A = blocks_lt (edge A c Tail) ((span_of c).hi / A) A (omega arith) in
    let k : edge A c Tail * A + A ≤ (span_of c).hi = omega arith in
    tail_test (not (edge A c Tail == edge A c Head)) (span_of c).hi (edge A c Tail * A + A) k

pub has_aligned : (A : ℕ) (c : Client) (side : Side) → 0 < A → (span_of c).lo < (span_of c).hi → (span_of c).lo % A ≡ 0 → (span_of c).hi % A ≡ 0 → has A c side ≡ false
has_aligned A c Head h some lo hi = aligned_head A c h some lo hi
has_aligned A c Tail h some lo hi = aligned_tail A c h some hi

-- a WRITE with a head or a tail is serialising
pub has_serial : (A : ℕ) (c : Client) (side : Side) → 0 < A → (span_of c).lo < (span_of c).hi → writes c ≡ true → has A c side ≡ true → serial A c ≡ true
unfolding serial
has_serial A c side h some writing is = go (writes c) ((span_of c).lo % A == 0) ((span_of c).hi % A == 0) refl refl writing
  where
    go : (w l k : Bool) → ((span_of c).lo % A == 0) ≡ l → ((span_of c).hi % A == 0) ≡ k → w ≡ true → w && not (l && k) ≡ true
    go true true true lo hi ok =
        absurd (true≢false (sym is ∙ has_aligned A c side h some (same_eqb _ _ lo) (same_eqb _ _ hi)))
    go true true false lo hi ok = refl
    go true false true lo hi ok = refl
    go true false false lo hi ok = refl
    go false l k lo hi ok = absurd (true≢false (sym ok))
