-- Laws of the blocks that a disk in memory holds.
use Rattle.std.proofs.Common.{◌≡◌, ◌≢◌, ℕ, ◌+◌, ◌-◌, ◌*◌, ◌/◌, ◌<◌, ◌≤◌, ◌⊎◌, List, [], ◌++◌, length, take, drop, replicate, refl, sym, ap, ◌∙◌, inl, inr, arith}
use Rattle.std.specs.Int.{div_ceil}
use Rattle.std.proofs.Math.Nat.{mul-le-mul_right}
use Rattle.std.proofs.lemmas.Nat.{le-div}
use Rattle.std.proofs.lemmas.List.{take-replicate, drop-replicate, take_at, length-append, length-take, length-drop}
use Rattle.std.proofs.lemmas.Bool.{eq-eqb, ne_eqb, cases_lt}
use Rattle.std.proofs.lemmas.Bool.Decides.{eqb_tells}
use Rattle.std.proofs.lemmas.Slice.{between_is, between-put_mid, take-put_mid_below, drop-put_mid}
use borrow.Rule.Slice.PartMut.{put_mid}
use Rattle.qs_bytes.specs.Pieces.{part}
use Rattle.qs_outside.specs.Blocks.{Stored}
use Rattle.qs_bytes.specs.Geometry.{stripe_of}
use Rattle.qs_outside.specs.Held.{Held, block_of, holder_rank}

-- a block of the stripe is a part of the bytes
pub block-here : (held : Held) (b align : ℕ) (bytes : List ℕ) → stripe_of b ≡ held.stripe → held.align ≡ align → held.bytes ≡ bytes
    → block_of held b ≡ part bytes (holder_rank b * align) align
unfolding block_of
block-here held b align bytes here same whole = rw (eq-eqb (stripe_of b) held.stripe here, same, whole) refl

block-elsewhere : (held : Held) (b : ℕ) → (stripe_of b ≡ held.stripe → ⊥) → block_of held b ≡ []
unfolding block_of
block-elsewhere held b h = rw (ne_eqb (stripe_of b) held.stripe h) refl

-- two blocks of one stripe have ranks of their own
rank-apart : (b c : ℕ) → stripe_of b ≡ stripe_of c → c ≢ b → (holder_rank c + 1 ≤ holder_rank b) ⊎ (holder_rank b + 1 ≤ holder_rank c)
rank-apart b c h differ =
    elim (cases_lt (holder_rank c) (holder_rank b)) [ inl below ↦ inl (omega arith) | inr above ↦ inr (omega arith) ]

-- the part of a list that lies within a front
part-below : (xs ys : List ℕ) (i n : ℕ) → take (i + n) xs ≡ take (i + n) ys → part xs i n ≡ part ys i n
part-below xs ys i n h =
    let e : i + n - i ≡ n = omega arith in
    rw e at (between_is xs i (i + n)) ∙ ap (drop i) h ∙ sym (rw e at (between_is ys i (i + n)))

-- a write of one block's bytes leaves the bytes of the others
pub part-other : (bytes piece : List ℕ) (r s align k : ℕ) → (s + 1 ≤ r) ⊎ (r + 1 ≤ s) → r * align + align ≤ length bytes → length piece ≡ align → k ≡ align
    → part (put_mid (r * align) k bytes piece) (s * align) align ≡ part bytes (s * align) align
part-other bytes piece r s align k (inl below) room whole e =
    let apart : (s + 1) * align ≤ r * align = mul-le-mul_right align below in
    part-below _ _ _ _ (take-put_mid_below (r * align) k bytes piece (s * align + align) (omega (arith, apart)) (omega arith))
part-other bytes piece r s align k (inr above) room whole e =
    let apart : (r + 1) * align ≤ s * align = mul-le-mul_right align above in
    ap (take align) (drop-put_mid (r * align) k bytes piece (s * align) (omega (arith, apart)) (omega arith) (omega arith))

pub part-same : (bytes piece : List ℕ) (at align k : ℕ) → at + align ≤ length bytes → length piece ≡ align → part (put_mid at k bytes piece) at align ≡ piece
part-same bytes piece at align k room whole =
    let e : at + align - at ≡ align = omega arith in
    rw e at (between-put_mid at k bytes piece (at + align) (omega arith) (omega arith))

-- what a vector holds after a write to its slice
pub refilled : (n at k : ℕ) (bytes piece items : List ℕ) → at + k ≤ length bytes → length piece ≡ k → n ≡ length bytes
    → take n (put_mid at k bytes piece ++ drop (length (put_mid at k bytes piece)) items) ≡ put_mid at k bytes piece
refilled n at k bytes piece items room whole e =
    take_at (put_mid at k bytes piece) _ n (simp (length-append, length-take, length-drop) (omega arith))

-- a write over a block's bytes is a store of the block
pub block-stored : (old new : Held) (b k : ℕ) (piece : List ℕ) → new.stripe ≡ old.stripe → new.align ≡ old.align
    → new.bytes ≡ put_mid (holder_rank b * old.align) k old.bytes piece → stripe_of b ≡ old.stripe → holder_rank b * old.align + old.align ≤ length old.bytes
    → length piece ≡ old.align → k ≡ old.align → Stored b piece (block_of old) (block_of new)
block-stored old new b k piece stripe align bytes here room whole e = record {
  here = block-here new b old.align _ (here ∙ sym stripe) align bytes ∙ part-same old.bytes piece (holder_rank b * old.align) old.align k room whole;
  others = λ c differ. elim (eqb_tells (stripe_of c) old.stripe) [
    | inl also ↦ block-here new c old.align _ (also.1 ∙ sym stripe) align bytes
        ∙ part-other old.bytes piece (holder_rank b) (holder_rank c) old.align k (rank-apart b c (here ∙ sym also.1) differ) room whole e
        ∙ sym (block-here old c old.align old.bytes also.1 refl refl)
    | inr other ↦ block-elsewhere new c (λ same. other.1 (same ∙ stripe)) ∙ sym (block-elsewhere old c other.1)
  ];
}

-- each of the stripe's blocks inside the image has room
pub rank-room : (b align size n : ℕ) → 0 < align → (b + 1) * align ≤ size → n ≡ div_ceil (size / align) 128 * 16 * align → (holder_rank b + 1) * align ≤ n
rank-room b align size n some inside e =
    let blocks : b + 1 ≤ size / align = le-div (b + 1) size align some inside in
    let ranks : holder_rank b + 1 ≤ div_ceil (size / align) 128 * 16 = omega arith in
    rw e (mul-le-mul_right align ranks)

-- a block of zeros
pub block-zeros : (held : Held) (b n : ℕ) → held.bytes ≡ replicate n 0 → stripe_of b ≡ held.stripe → (holder_rank b + 1) * held.align ≤ n
    → block_of held b ≡ replicate held.align 0
block-zeros held b n zeros here room =
    let none : ℕ = 0 in
    block-here held b held.align (replicate n none) here refl zeros
    ∙ (rw (drop-replicate (holder_rank b * held.align) n none) (take-replicate held.align (n - holder_rank b * held.align) none (omega arith)))
