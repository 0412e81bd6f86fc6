-- Laws of runs of blocks.
use Rattle.std.proofs.Common.{◌≡◌, ℕ, zero, suc, ◌+◌, ◌*◌, ◌<◌, ◌≤◌, List, length, take, drop, sym, subst, ◌∙◌, inl, arith}
use Rattle.std.proofs.lemmas.List.{length-append, length-take, length-take-le, length-drop}
use Rattle.std.proofs.Math.Nat.{mul-le-mul_right}
use borrow.Rule.Slice.PartMut.{put_mid}
use Rattle.qs_bytes.specs.Geometry.{stripe_of}
use Rattle.qs_bytes.specs.Pieces.{part}
use Rattle.qs_outside.specs.Blocks.{Seen, Fixed, IsBlock}
use Rattle.qs_outside.specs.Runs.{InOrder, IsContent, IsRun, IsStored, LoadsAt, LoadsEnd, MayBeStored, Reads, Refuses, StoresAt, StoresEnd, Writes}
use Rattle.qs_outside.proofs.HeldBlocks.{part-other, part-same}

-- steps that are weakened one by one
pub in_order-map : {X : Type 0} (P Q : ℕ → X → X → Type 0) (n : ℕ) → ((i : ℕ) → i < n → (a b : X) → P i a b → Q i a b) → (old new : X)
    → InOrder P n old new → InOrder Q n old new
in_order-map P Q zero weaker old new steps = steps
in_order-map P Q (suc n) weaker old new steps =
    (steps.0, (in_order-map P Q n (λ i below. weaker i (omega (arith, below))) old steps.0 steps.1.0, weaker n (omega arith) steps.0 new steps.1.1))

-- a run's steps and one more
pub in_order-more : {X : Type 0} (P : ℕ → X → X → Type 0) (n : ℕ) (old mid new : X) → InOrder P n old mid → P n mid new → InOrder P (n + 1) old new
in_order-more {X} P n old mid new steps final =
    let e : suc n ≡ n + 1 = omega arith in
    subst (λ m. InOrder P m old new) e (mid, (steps, final))

-- each block of a run is one of the stripe's
pub run-block : (disk now : Seen) (b n i : ℕ) → IsRun disk b n → Fixed disk now → i < n → IsBlock now (b + i)
run-block disk now b n i run fixed below =
    let inside : (b + i + 1) * disk.align ≤ (b + n) * disk.align = mul-le-mul_right disk.align (omega (arith, below)) in
    let here : stripe_of (b + i) ≡ stripe_of b = omega (arith, run.group, below) in
    record {
      here = here ∙ run.here ∙ sym fixed.stripe;
      inside = rw (fixed.align, fixed.size) (omega (arith, inside, run.inside));
    }

-- where a block's part is in the bytes of a run
pub run-place : (align n i : ℕ) → i < n → i * align + align ≤ n * align
run-place align n i below =
    let next : (i + 1) * align ≤ n * align = mul-le-mul_right align (omega (arith, below)) in
    omega (arith, next)

-- bytes that are written over the part of one block leave the parts before it
loads-kept : (align b n : ℕ) (bytes piece : List ℕ) (k : ℕ) → n * align + align ≤ length bytes → length piece ≡ align → k ≡ align → (i : ℕ) → i < n
    → (old new : Seen) → LoadsAt align b bytes i old new → LoadsAt align b (put_mid (n * align) k bytes piece) i old new
loads-kept align b n bytes piece k room whole e i below old new step = record {
  reads = step.reads;
  content = subst (IsContent old new (b + i)) (sym (part-other bytes piece n i align k (inl (omega (arith, below))) room whole e)) step.content;
}

pub loads-before : (align b n : ℕ) (bytes piece : List ℕ) (k : ℕ) → n * align + align ≤ length bytes → length piece ≡ align → k ≡ align
    → (old new : Seen) → InOrder (LoadsAt align b bytes) n old new → InOrder (LoadsAt align b (put_mid (n * align) k bytes piece)) n old new
loads-before align b n bytes piece k room whole e =
    in_order-map (LoadsAt align b bytes) (LoadsAt align b (put_mid (n * align) k bytes piece)) n (loads-kept align b n bytes piece k room whole e)

-- the loads so far, and the next
pub loads-more : (align b n : ℕ) (bytes piece : List ℕ) (k : ℕ) → n * align + align ≤ length bytes → length piece ≡ align → k ≡ align
    → (old mid new : Seen) → InOrder (LoadsAt align b bytes) n old mid → Reads mid new → IsContent mid new (b + n) piece
    → InOrder (LoadsAt align b (put_mid (n * align) k bytes piece)) (n + 1) old new
loads-more align b n bytes piece k room whole e old mid new steps reads content =
    in_order-more (LoadsAt align b (put_mid (n * align) k bytes piece)) n old mid new (loads-before align b n bytes piece k room whole e old mid steps)
    (record { reads = reads; content = subst (IsContent mid new (b + n)) (sym (part-same bytes piece (n * align) align k room whole)) content })

-- the loads so far, and one that failed
pub loads-end : (align b n all : ℕ) (bytes piece : List ℕ) (k : ℕ) → n < all → n * align + align ≤ length bytes → length piece ≡ align → k ≡ align
    → (old mid new : Seen) → InOrder (LoadsAt align b bytes) n old mid → Reads mid new → Refuses mid new piece
    → LoadsEnd align b all (put_mid (n * align) k bytes piece) n old new
loads-end align b n all bytes piece k below room whole e old mid new steps reads refuses = record {
  before = below;
  ends = (
    mid,
    (
      loads-before align b n bytes piece k room whole e old mid steps,
      record { reads = reads; refuses = subst (Refuses mid new) (sym (part-same bytes piece (n * align) align k room whole)) refuses },
    ),
  );
}

-- the stores so far, and the next
pub stores-more : (align b n d : ℕ) (bytes piece : List ℕ) → d ≡ b + n → piece ≡ part bytes (n * align) align → (old mid new : Seen)
    → InOrder (StoresAt align b bytes) n old mid → Writes d piece mid new → IsStored d piece mid new → InOrder (StoresAt align b bytes) (n + 1) old new
stores-more align b n d bytes piece block same old mid new steps writes stored =
    in_order-more (StoresAt align b bytes) n old mid new steps (record {
      writes = subst (λ e. Writes e (part bytes (n * align) align) mid new) block (subst (λ x. Writes d x mid new) same writes);
      stored = subst (λ e. IsStored e (part bytes (n * align) align) mid new) block (subst (λ x. IsStored d x mid new) same stored);
    })

-- the stores so far, and one that failed
pub stores-end : (align b n all d : ℕ) (bytes piece : List ℕ) → d ≡ b + n → piece ≡ part bytes (n * align) align → n < all → (old mid new : Seen)
    → InOrder (StoresAt align b bytes) n old mid → Writes d piece mid new → MayBeStored d piece mid new → StoresEnd align b all bytes n old new
stores-end align b n all d bytes piece block same below old mid new steps writes stored = record {
  before = below;
  ends = (
    mid,
    (
      steps,
      record {
        writes = subst (λ e. Writes e (part bytes (n * align) align) mid new) block (subst (λ x. Writes d x mid new) same writes);
        stored = subst (λ e. MayBeStored e (part bytes (n * align) align) mid new) block (subst (λ x. MayBeStored d x mid new) same stored);
      },
    ),
  );
}

pub fixed-on : (a b c : Seen) → Fixed a b → Fixed b c → Fixed a c
fixed-on a b c one two = record {
  stripe = two.stripe ∙ one.stripe;
  align = two.align ∙ one.align;
  size = two.size ∙ one.size;
  tells = two.tells ∙ one.tells;
}

-- the part that a call was given, and the bytes behind it
pub piece-length : (at k align : ℕ) (xs piece : List ℕ) → length piece ≡ length (take k (drop at xs)) → k ≡ align → at + align ≤ length xs → length piece ≡ align
piece-length at k align xs piece same is room = same ∙ length-take-le k (drop at xs) (omega (arith, length-drop at xs)) ∙ is

pub put-length : (at k : ℕ) (xs ys : List ℕ) → at + k ≤ length xs → length ys ≡ k → length (put_mid at k xs ys) ≡ length xs
put-length at k xs ys room whole = simp (length-append, length-take, length-drop) (omega arith)
