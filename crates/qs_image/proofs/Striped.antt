-- One disk of a list is called: what that does to the list and to the image.
use Rattle.std.proofs.Common.{◌≡◌, ℕ, ◌+◌, ◌*◌, ◌<◌, ◌≤◌, inl, inr, List, length, get_or, set, refl, sym, ap, ◌∙◌, subst, arith, length-set}
use Rattle.std.specs.Prelude.{map, IsTrue, Result, Ok, Err, OnOk, OnErr}
use Rattle.std.proofs.lemmas.List.{get_or-map, map-set, length-map, get_or-set_same, get_or-set_other}
use Rattle.std.proofs.lemmas.Bool.{cases_eq}
use Rattle.std.proofs.Math.Seq.{take-length}
use Rattle.qs_bytes.proofs.Overlays.{overlay-none}
use Rattle.qs_bytes.specs.Pieces.{part, overlay}
use Rattle.qs_outside.specs.Faults.{Rose, HasCause}
use Rattle.qs_outside.specs.Blocks.{Seen, Fixed, Same, Stored, StoredOrNot, IsBlock}
use Rattle.qs_bytes.specs.Geometry.{stripe_of}
use Rattle.qs_image.specs.Image.{no_disk, disk, align_of, size_of, block_now, block_past, image, content, AllTell, SameDisks, HasByte, RoseAt, Loads, Stores}
use Rattle.qs_image.specs.Opening.{IsAlike, IsImage}
use Rattle.qs_image.proofs.Contents.{image-same, image-stored, part-image}

-- a fact for Ok, and one for Err, from another
pub when_ok : {T E : Type 0} {P Q : Type 0} (result : Result T E) → OnOk result P → (P → Q) → OnOk result Q
when_ok (Ok x) p f = f p
when_ok (Err e) p f = p

pub when_err : {T E : Type 0} {P Q : Type 0} (result : Result T E) → OnErr result P → (P → Q) → OnErr result Q
when_err (Ok x) p f = p
when_err (Err e) p f = f p

-- what a disk of the list means
pub seen_at : {D : Type 0} (seen : D → Seen) (disks : List D) (k : ℕ) (d : D) → k < length disks →
    disk (map seen disks) k ≡ seen (get_or disks k d)
seen_at seen disks k d inside = get_or-map seen disks k d no_disk inside

-- a relation of each disk before and after, where one was called
pub each_disk : (P : Seen → Seen → Type 0) (disks : List Seen) (k : ℕ) (called : Seen) → k < length disks →
    ((d : Seen) → P d d) → P (disk disks k) called → (j : ℕ) → P (disk disks j) (disk (set disks k called) j)
each_disk P disks k called inside still there j =
    elim (cases_eq j k) [
      | inl e ↦ subst (λ (i : ℕ). P (disk disks i) (disk (set disks k called) i)) (sym e)
          (subst (λ (d : Seen). P (disk disks k) d) (sym (get_or-set_same disks k called no_disk inside)) there)
      | inr ne ↦ subst (λ (d : Seen). P (disk disks j) d) (sym (get_or-set_other disks k j called no_disk ne)) (still (disk disks j))
    ]

-- they are the same disks
pub same_disks : (disks : List Seen) (k : ℕ) (called : Seen) → k < length disks → Fixed (disk disks k) called →
    (disk disks k).faults ≤ called.faults → SameDisks disks (set disks k called)
same_disks disks k called inside fixed later = record {
  count = length-set disks k called;
  stripe = each_disk (λ d e. e.stripe ≡ d.stripe) disks k called inside (λ d. refl) fixed.stripe;
  align = each_disk (λ d e. e.align ≡ d.align) disks k called inside (λ d. refl) fixed.align;
  size = each_disk (λ d e. e.size ≡ d.size) disks k called inside (λ d. refl) fixed.size;
  tells = each_disk (λ d e. e.tells ≡ d.tells) disks k called inside (λ d. refl) fixed.tells;
  later = each_disk (λ d e. d.faults ≤ e.faults) disks k called inside (λ d. omega arith) later;
}

pub same_disks_refl : (disks : List Seen) → SameDisks disks disks
same_disks_refl disks = record {
  count = refl;
  stripe = λ k. refl;
  align = λ k. refl;
  size = λ k. refl;
  tells = λ k. refl;
  later = λ k. omega arith;
}

pub same_disks_trans : (a b c : List Seen) → SameDisks a b → SameDisks b c → SameDisks a c
same_disks_trans a b c ab bc = record {
  count = bc.count ∙ ab.count;
  stripe = λ k. bc.stripe k ∙ ab.stripe k;
  align = λ k. bc.align k ∙ ab.align k;
  size = λ k. bc.size k ∙ ab.size k;
  tells = λ k. bc.tells k ∙ ab.tells k;
  later = λ k. omega (arith, ab.later k, bc.later k);
}

-- they tell as before
pub still_tell : (old new : List Seen) → SameDisks old new → AllTell old → AllTell new
still_tell old new same tell k below = rw (same.tells k) (tell k below)

-- an image of the same alignment and size
pub image_at : (old new : List Seen) (blocks : ℕ → List ℕ) → SameDisks old new →
    image (align_of new) (size_of new) blocks ≡ image (align_of old) (size_of old) blocks
image_at old new blocks same =
    ap (λ (align : ℕ). image align (size_of new) blocks) (same.align 0)
    ∙ ap (λ (size : ℕ). image (align_of old) size blocks) (same.size 0)

-- a rise of the disk that was called for a block
pub rose_block : (disks : List Seen) (b count : ℕ) (called : Seen) → stripe_of b < length disks → 0 < align_of disks → count ≡ align_of disks →
    Rose (disk disks (stripe_of b)).faults called.faults → RoseAt disks (b * align_of disks) count (set disks (stripe_of b) called)
rose_block disks b count called inside some is rose =
    (b, (record { behind = omega arith; before = omega arith }, rw (get_or-set_same disks (stripe_of b) called no_disk inside) rose))

-- a rise within a range is one of a larger range and a longer run
pub rose_within : (old mid new : List Seen) (at count place n : ℕ) → SameDisks old mid → at ≤ place → place + n ≤ at + count →
    RoseAt mid place n new → RoseAt old at count new
rose_within old mid new at count place n same from to rose =
    let has : HasByte (align_of old) place n rose.0 = subst (λ (align : ℕ). HasByte align place n rose.0) (same.align 0) rose.1.0 in (
      rose.0,
      (record { behind = omega (arith, has.behind); before = omega (arith, has.before) }, omega (arith, rose.1.1, same.later (stripe_of rose.0))),
    )

-- what a crash leaves after a call that left it
pub past_kept : (disks : List Seen) (k : ℕ) (called : Seen) → k < length disks → Same (disk disks k).past called.past →
    Same (block_past disks) (block_past (set disks k called))
past_kept disks k called inside kept = λ b. each_disk (λ d e. e.past b ≡ d.past b) disks k called inside (λ d. refl) (kept b) (stripe_of b)

-- the blocks of the list after a call that left each block of its disk
pub content_kept : (disks : List Seen) (k : ℕ) (called : Seen) → k < length disks → Fixed (disk disks k) called →
    (disk disks k).faults ≤ called.faults → Same (disk disks k).now called.now → content (set disks k called) ≡ content disks
content_kept disks k called inside fixed later kept =
    image_at disks (set disks k called) (block_now (set disks k called)) (same_disks disks k called inside fixed later)
    ∙ image-same (align_of disks) (size_of disks) (block_now disks) (block_now (set disks k called))
    (λ b. each_disk (λ d e. e.now b ≡ d.now b) disks k called inside (λ d. refl) (kept b) (stripe_of b))

-- the blocks of the list after one was stored
pub blocks_stored : (disks : List Seen) (k b : ℕ) (bytes : List ℕ) (called : Seen) → k < length disks → stripe_of b ≡ k →
    Stored b bytes (disk disks k).now called.now → Stored b bytes (block_now disks) (block_now (set disks k called))
blocks_stored disks k b bytes called inside here stored = record {
  here =
      ap (λ (i : ℕ). (disk (set disks k called) i).now b) here
      ∙ ap (λ (d : Seen). d.now b) (get_or-set_same disks k called no_disk inside)
      ∙ stored.here;
  others = λ c ne. each_disk (λ d e. e.now c ≡ d.now c) disks k called inside (λ d. refl) (stored.others c ne) (stripe_of c);
}

pub content_stored : (disks : List Seen) (k b : ℕ) (bytes : List ℕ) (called : Seen) → k < length disks → stripe_of b ≡ k →
    Fixed (disk disks k) called → (disk disks k).faults ≤ called.faults →
    0 < align_of disks → (b + 1) * align_of disks ≤ size_of disks → length bytes ≡ align_of disks →
    Stored b bytes (disk disks k).now called.now →
    content (set disks k called) ≡ overlay (content disks) (b * align_of disks) bytes
content_stored disks k b bytes called inside here fixed later some within whole stored =
    image_at disks (set disks k called) (block_now (set disks k called)) (same_disks disks k called inside fixed later)
    ∙ image-stored (align_of disks) (size_of disks) (block_now disks) (block_now (set disks k called)) b bytes some within whole
    (blocks_stored disks k b bytes called inside here stored)

-- what the disk of a block's stripe is, in an image
pub block_of : (disks : List Seen) (b : ℕ) → IsImage disks → (b + 1) * align_of disks ≤ size_of disks →
    IsBlock (disk disks (stripe_of b)) b × ((disk disks (stripe_of b)).align ≡ align_of disks)
block_of disks b is inside =
    let alike : IsAlike disks (stripe_of b) = is.0.1 (stripe_of b) (omega arith) in
    (record { here = sym alike.stripe; inside = rw (alike.align, alike.size) inside }, alike.align)

-- a block has some bytes
pub some_align : (disks : List Seen) → IsImage disks → 0 < align_of disks
some_align disks is = elim is.1.0 [ inl e ↦ omega arith | inr e ↦ omega arith ]

-- the block of a disk that tells is a part of the content
pub part_content : (disks : List Seen) (b : ℕ) (bytes : List ℕ) → (b + 1) * align_of disks ≤ size_of disks →
    length bytes ≡ align_of disks → bytes ≡ block_now disks b →
    bytes ≡ part (content disks) (b * align_of disks) (length bytes)
part_content disks b bytes inside whole is =
    is ∙ sym (part-image (align_of disks) (size_of disks) (block_now disks) b inside (ap length (sym is) ∙ whole))
    ∙ ap (λ (n : ℕ). part (content disks) (b * align_of disks) n) (sym whole)

-- what a call of one disk told
pub record ReadsBlock {E : Type 0} (b : ℕ) (bytes : List ℕ) (result : Result Unit E) (old new : Seen) : Type 0 where
  pub fixed : Fixed old new
  pub cause : HasCause old.faults new.faults result
  pub bytes_are : IsTrue old.tells → OnOk result (bytes ≡ old.now b)
  pub kept : IsTrue old.tells → Same old.now new.now
  pub past : IsTrue old.tells → Same old.past new.past

pub record WritesBlock {E : Type 0} (b : ℕ) (bytes : List ℕ) (result : Result Unit E) (old new : Seen) : Type 0 where
  pub fixed : Fixed old new
  pub cause : HasCause old.faults new.faults result
  pub stored : IsTrue old.tells → OnOk result (Stored b bytes old.now new.now)
  pub refused : IsTrue old.tells → OnErr result (StoredOrNot b bytes old.now new.now)

-- one block was read
pub loads_block : {E : Type 0} (disks : List Seen) (b : ℕ) (bytes : List ℕ) (result : Result Unit E) (called : Seen) →
    IsImage disks → (b + 1) * align_of disks ≤ size_of disks → length bytes ≡ align_of disks →
    Fixed (disk disks (stripe_of b)) called → HasCause (disk disks (stripe_of b)).faults called.faults result →
    (IsTrue (disk disks (stripe_of b)).tells → OnOk result (bytes ≡ (disk disks (stripe_of b)).now b)) →
    (IsTrue (disk disks (stripe_of b)).tells → Same (disk disks (stripe_of b)).now called.now) →
    (IsTrue (disk disks (stripe_of b)).tells → Same (disk disks (stripe_of b)).past called.past) →
    Loads disks (b * align_of disks) bytes result (set disks (stripe_of b) called)
loads_block disks b bytes result called is inside whole fixed cause bytes_are kept past =
    let k : ℕ = stripe_of b in
    let below : k < 8 = omega arith in
    let within : k < length disks = omega (arith, is.0.0) in
    record {
      bytes_are = λ tell. when_ok result (bytes_are (tell k below)) (part_content disks b bytes inside whole);
      kept = λ tell. content_kept disks k called within fixed cause.later (kept (tell k below));
      past = λ tell. past_kept disks k called within (past (tell k below));
      same = same_disks disks k called within fixed cause.later;
      cause = when_err result cause.failed (rose_block disks b (length bytes) called within (some_align disks is) whole);
    }

-- one block was written
pub stores_block : {E : Type 0} (disks : List Seen) (b : ℕ) (bytes : List ℕ) (result : Result Unit E) (called : Seen) →
    IsImage disks → (b + 1) * align_of disks ≤ size_of disks → length bytes ≡ align_of disks →
    Fixed (disk disks (stripe_of b)) called → HasCause (disk disks (stripe_of b)).faults called.faults result →
    (IsTrue (disk disks (stripe_of b)).tells → OnOk result (Stored b bytes (disk disks (stripe_of b)).now called.now)) →
    (IsTrue (disk disks (stripe_of b)).tells → OnErr result (StoredOrNot b bytes (disk disks (stripe_of b)).now called.now)) →
    Stores disks (b * align_of disks) bytes result (set disks (stripe_of b) called)
stores_block disks b bytes result called is inside whole fixed cause stored refused =
    let k : ℕ = stripe_of b in
    let below : k < 8 = omega arith in
    let within : k < length disks = omega (arith, is.0.0) in
    let same : SameDisks disks (set disks k called) = same_disks disks k called within fixed cause.later in
    let some : 0 < align_of disks = some_align disks is in
    let at : ℕ = b * align_of disks in
    let put : Stored b bytes (disk disks k).now called.now → content (set disks k called) ≡ overlay (content disks) at bytes =
    content_stored disks k b bytes called within refl fixed cause.later some inside whole in
    record {
      written = λ tell. when_ok result (stored (tell k below)) put;
      cut = λ tell. when_err result (refused (tell k below))
          (λ either. elim either [
            | inl kept ↦ (0, (omega arith, content_kept disks k called within fixed cause.later kept ∙ sym (overlay-none (content disks) at)))
            | inr done ↦ (length bytes, (omega arith, rw (take-length bytes) (put done)))
          ]);
      same = same;
      cause = when_err result cause.failed (rose_block disks b (length bytes) called within some whole);
    }

module _ {D : Type 0} (seen : D → Seen) (disks : List D) (b : ℕ) (d : D) where
  -- what the disk that is called was
  called_disk : IsImage (map seen disks) → disk (map seen disks) (stripe_of b) ≡ seen (get_or disks (stripe_of b) d)
  called_disk is =
      seen_at seen disks (stripe_of b) d (omega (arith, is.0.0, length-map disks seen))

  -- it has the block, and blocks of the image's size
  pub has_block : (k : ℕ) → k ≡ stripe_of b → IsImage (map seen disks) → (b + 1) * align_of (map seen disks) ≤ size_of (map seen disks) →
      IsBlock (seen (get_or disks k d)) b × ((seen (get_or disks k d)).align ≡ align_of (map seen disks))
  has_block k here is inside =
      subst (λ (j : ℕ). IsBlock (seen (get_or disks j d)) b × ((seen (get_or disks j d)).align ≡ align_of (map seen disks))) (sym here)
      (subst (λ (s : Seen). IsBlock s b × (s.align ≡ align_of (map seen disks))) (called_disk is) (block_of (map seen disks) b is inside))

  -- one block was read from the disks
  pub loads_by : {E : Type 0} (k : ℕ) (bytes : List ℕ) (result : Result Unit E) (called : D) → k ≡ stripe_of b →
      IsImage (map seen disks) → (b + 1) * align_of (map seen disks) ≤ size_of (map seen disks) →
      length bytes ≡ align_of (map seen disks) → ReadsBlock b bytes result (seen (get_or disks k d)) (seen called) →
      Loads (map seen disks) (b * align_of (map seen disks)) bytes result (map seen (set disks k called))
  loads_by k bytes result called here is inside whole reads =
      let before : ReadsBlock b bytes result (disk (map seen disks) (stripe_of b)) (seen called) =
      subst (λ (s : Seen). ReadsBlock b bytes result s (seen called)) (sym (called_disk is))
      (subst (λ (j : ℕ). ReadsBlock b bytes result (seen (get_or disks j d)) (seen called)) here reads) in
      subst (λ (j : ℕ). Loads (map seen disks) (b * align_of (map seen disks)) bytes result (map seen (set disks j called))) (sym here)
      (subst (λ (new : List Seen). Loads (map seen disks) (b * align_of (map seen disks)) bytes result new)
      (sym (map-set seen disks (stripe_of b) called))
      (loads_block (map seen disks) b bytes result (seen called) is inside whole before.fixed before.cause before.bytes_are before.kept before.past))

  -- one block was written to the disks
  pub stores_by : {E : Type 0} (k : ℕ) (bytes : List ℕ) (result : Result Unit E) (called : D) → k ≡ stripe_of b →
      IsImage (map seen disks) → (b + 1) * align_of (map seen disks) ≤ size_of (map seen disks) →
      length bytes ≡ align_of (map seen disks) → WritesBlock b bytes result (seen (get_or disks k d)) (seen called) →
      Stores (map seen disks) (b * align_of (map seen disks)) bytes result (map seen (set disks k called))
  stores_by k bytes result called here is inside whole writes =
      let before : WritesBlock b bytes result (disk (map seen disks) (stripe_of b)) (seen called) =
      subst (λ (s : Seen). WritesBlock b bytes result s (seen called)) (sym (called_disk is))
      (subst (λ (j : ℕ). WritesBlock b bytes result (seen (get_or disks j d)) (seen called)) here writes) in
      subst (λ (j : ℕ). Stores (map seen disks) (b * align_of (map seen disks)) bytes result (map seen (set disks j called))) (sym here)
      (subst (λ (new : List Seen). Stores (map seen disks) (b * align_of (map seen disks)) bytes result new)
      (sym (map-set seen disks (stripe_of b) called))
      (stores_block (map seen disks) b bytes result (seen called) is inside whole before.fixed before.cause before.stored before.refused))
