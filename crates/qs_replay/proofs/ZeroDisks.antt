-- Eight disks of zeros are an image.
use Rattle.std.proofs.Common.{◌≡◌, ℕ, zero, suc, ◌+◌, ◌*◌, ◌%◌, ◌^◌, ◌<◌, ◌≤◌, inl, inr, List, [], ◌∷◌, ◌++◌, length, map, replicate, refl, sym, ap, ◌∙◌, subst, arith}
use Rattle.std.specs.Prelude.{IsTrue, String}
use Rattle.std.specs.Global.{Global}
use Rattle.std.proofs.lemmas.List.{length-map}
use Rattle.qs_outside.specs.Blocks.{IsBlock, Seen}
use Rattle.qs_bytes.specs.Geometry.{stripe_of}
use Rattle.qs_outside.specs.Journal.{Journal, journal_seen}
use Rattle.qs_image.specs.Image.{align_of, disk, size_of}
use Rattle.qs_image.specs.Opening.{IsAlign}
use Rattle.qs_replay_words.proofs.FromLeft.{tells_one}
use Rattle.qs_replay_words.specs.Words.{TellsWords}
use Rattle.qs_replay_words.specs.declared.words.ReplayWords.{ReplayWords}
use Rattle.qs_replay.specs.ZeroDisks.{AreDisksOf, AreFrom, AreZeroDisks, IsZeroDisk}

-- one disk more
pub from_more : (align size k : ℕ) (ds : List Journal) (d : Journal) → AreFrom align size k ds → IsZeroDisk align size (k + length ds) d → AreFrom align size k (ds ++ d ∷ [])
from_more align size k [] d are is = (subst (λ (j : ℕ). IsZeroDisk align size j d) (omega arith) is, tt)
from_more align size k (x ∷ ds) d are is = (are.0, from_more align size (k + 1) ds d are.1 (subst (λ (j : ℕ). IsZeroDisk align size j d) (omega arith) is))

-- the disk of a stripe, by what it means
pub disk_from : (align size k : ℕ) (ds : List Journal) (j : ℕ) → AreFrom align size k ds → j < length ds →
    (d : Journal) × (IsZeroDisk align size (k + j) d × (disk (map journal_seen ds) j ≡ journal_seen d))
disk_from align size k [] j are inside = absurd (omega arith)
disk_from align size k (x ∷ ds) zero are inside = (x, (subst (λ (j : ℕ). IsZeroDisk align size j x) (omega arith) are.0, refl))
disk_from align size k (x ∷ ds) (suc j) are inside =
    let (d, (is, at)) = disk_from align size (k + 1) ds j are.1 (omega arith) in (d, (subst (λ (i : ℕ). IsZeroDisk align size i d) (omega arith) is, at))

-- what each disk means
pub record MeansZeros (align size k : ℕ) (d : Seen) : Type 0 where
  pub stripe_is : d.stripe ≡ k
  pub align_is : d.align ≡ align
  pub size_is : d.size ≡ size
  pub tells : IsTrue d.tells
  pub now : (b : ℕ) → IsBlock d b → d.now b ≡ replicate align 0
  pub past : (b : ℕ) → d.past b ≡ d.now b ∷ []

pub means_at : (align size : ℕ) (ds : List Journal) (k : ℕ) → length ds ≡ 8 → AreFrom align size 0 ds → k < 8 → MeansZeros align size k (disk (map journal_seen ds) k)
means_at align size ds k many are h =
    let (d, (is, at)) = disk_from align size 0 ds k are (omega (arith, h, many)) in
    subst (λ (x : Seen). MeansZeros align size k x) (sym at) (record {
      stripe_is = is.zeros.stripe_is ∙ omega arith;
      align_is = is.zeros.align_is;
      size_is = is.zeros.size_is;
      tells = is.zeros.tells;
      now = is.zeros.now;
      past = is.zeros.past;
    })

pub zero_image : (align blocks : ℕ) (ds : List Journal) → IsAlign align → blocks ≤ 65536 → length ds ≡ 8 → AreFrom align (blocks * align) 0 ds →
    AreZeroDisks align (blocks * align) ds
zero_image align blocks ds known few many are = record {
  image = (
    (
      length-map ds journal_seen ∙ many,
      λ k h. record {
        align = (at k h).align_is ∙ sym align_same;
        size = (at k h).size_is ∙ sym size_same;
        stripe = (at k h).stripe_is;
      },
    ),
    (subst IsAlign (sym align_same) known, whole, small),
  );
  align_is = align_same;
  size_is = size_same;
  telling = λ k h. (at k h).tells;
  settled = λ b. (at (stripe_of b) (omega arith)).past b;
  zeros = λ b inside. (at (stripe_of b) (omega arith)).now b (record {
    here = sym (at (stripe_of b) (omega arith)).stripe_is;
    inside = rw ((at (stripe_of b) (omega arith)).align_is, (at (stripe_of b) (omega arith)).size_is) inside;
  });
  each = are;
}
  where
    at : (k : ℕ) → k < 8 → MeansZeros align (blocks * align) k (disk (map journal_seen ds) k)
    at k h = means_at align (blocks * align) ds k many are h

    align_same : align_of (map journal_seen ds) ≡ align
    align_same = (at 0 (omega arith)).align_is

    size_same : size_of (map journal_seen ds) ≡ blocks * align
    size_same = (at 0 (omega arith)).size_is

    whole_by : (a : ℕ) → IsAlign a → (blocks * a) % a ≡ 0
    whole_by a (inl e) = subst (λ (n : ℕ). (blocks * n) % n ≡ 0) (sym e) (omega arith)
    whole_by a (inr e) = subst (λ (n : ℕ). (blocks * n) % n ≡ 0) (sym e) (omega arith)

    small_by : (a : ℕ) → IsAlign a → blocks * a ≤ 2 ^ 40
    small_by a (inl e) = subst (λ (n : ℕ). blocks * n ≤ 2 ^ 40) (sym e) (omega (arith, few))
    small_by a (inr e) = subst (λ (n : ℕ). blocks * n ≤ 2 ^ 40) (sym e) (omega (arith, few))

    whole : size_of (map journal_seen ds) % align_of (map journal_seen ds) ≡ 0
    whole = rw (size_same, align_same) (whole_by align known)

    small : size_of (map journal_seen ds) ≤ 2 ^ 40
    small = rw size_same (small_by align known)

-- the disks that the words name are of the block and size that the words tell
pub named_disks : (words : List (String Global)) (disks : List Journal) → AreDisksOf words disks → (told : ReplayWords) → TellsWords words told →
    (align_of (map journal_seen disks) ≡ told.align) × (size_of (map journal_seen disks) ≡ told.blocks * told.align)
named_disks words disks (inl are) told tells =
    let same : are.0 ≡ told = tells_one words are.0 told are.1 tells in (
      are.2.align_is ∙ ap (λ (t : ReplayWords). t.align) same,
      are.2.size_is ∙ ap (λ (t : ReplayWords). t.blocks * t.align) same,
    )
named_disks words disks (inr none) told tells = absurd (none.0 told tells)
