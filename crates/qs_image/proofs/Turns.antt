-- One more block of a span is read or written.
use Rattle.std.proofs.Common.{◌≡◌, ℕ, ◌+◌, ◌*◌, ◌/◌, ◌%◌, ◌<◌, ◌≤◌, List, ◌++◌, length, take, drop, sym, ap, ◌∙◌, arith, append_assoc, length-append, length-take-le, length-drop}
use Rattle.std.specs.Prelude.{Ok, Err}
use Rattle.std.proofs.lemmas.List.{take_at, take-take}
use Rattle.std.proofs.lemmas.Nat.{div-add-mod'}
use Rattle.std.proofs.Math.Seq.{take-add}
use borrow.Rule.Slice.PartMut.{put_mid, post_of}
use Rattle.qs_bytes.specs.Pieces.{part, overlay}
use Rattle.qs_bytes.proofs.Overlays.{part-add, overlay-append}
use Rattle.qs_outside.specs.Blocks.{Seen}
use Rattle.qs_image.specs.Image.{content, AllTell, SameDisks, IsFrontWritten, Loads, Stores, size_of}
use Rattle.qs_image.proofs.Contents.{length-image}
use Rattle.qs_image.proofs.Striped.{still_tell}

pub length-content : (disks : List Seen) → length (content disks) ≡ size_of disks
length-content disks = length-image _ _ _

-- the front of a list where a piece was put behind it
pub take-put_mid : (xs ys : List ℕ) (a k n : ℕ) → a ≤ length xs → n ≡ a + length ys → take n (put_mid a k xs ys) ≡ take a xs ++ ys
take-put_mid xs ys a k n inside is =
    let front : length (take a xs) ≡ a = length-take-le a xs inside in
    ap (λ (zs : List ℕ). take n zs) (sym (append_assoc (take a xs) ys (post_of a k xs)))
    ∙ take_at (take a xs ++ ys) (post_of a k xs) n (simp length-append (omega (arith, front)))

-- the bytes read so far, and one more block
pub loads_more : {E : Type 0} (old mid new : List Seen) (at a k n place : ℕ) (into piece : List ℕ) →
    a ≤ length into → n ≡ a + length piece → place ≡ at + a → SameDisks old mid →
    (AllTell old → take a into ≡ part (content old) at a) → (AllTell old → content mid ≡ content old) →
    Loads {E = E} mid place piece (Ok tt) new → AllTell old → take n (put_mid a k into piece) ≡ part (content old) at n
loads_more old mid new at a k n place into piece inside is here same before kept loads tell =
    take-put_mid into piece a k n inside is
    ∙ ap (λ (xs : List ℕ). xs ++ piece) (before tell)
    ∙ ap (λ (xs : List ℕ). part (content old) at a ++ xs)
    (loads.bytes_are (still_tell old mid same tell)
    ∙ ap (λ (xs : List ℕ). part xs place (length piece)) (kept tell)
    ∙ ap (λ (x : ℕ). part (content old) x (length piece)) here)
    ∙ sym (part-add (content old) at a (length piece))
    ∙ ap (λ (m : ℕ). part (content old) at m) (sym is)

-- the bytes written so far, and a front of one more block
written_more : (old mid new : List Seen) (at a m place : ℕ) (bytes piece : List ℕ) →
    a + m ≤ length bytes → at + length bytes ≤ size_of old → place ≡ at + a → take m piece ≡ take m (drop a bytes) →
    content mid ≡ overlay (content old) at (take a bytes) → content new ≡ overlay (content mid) place (take m piece) →
    content new ≡ overlay (content old) at (take (a + m) bytes)
written_more old mid new at a m place bytes piece inside within here front before now =
    let first : List ℕ = take a bytes in
    let long : length first ≡ a = length-take-le a bytes (omega arith) in
    let rest : length (take m (drop a bytes)) ≡ m = length-take-le m (drop a bytes) (simp length-drop (omega arith)) in
    now
    ∙ ap (λ (xs : List ℕ). overlay xs place (take m piece)) before
    ∙ ap (λ (xs : List ℕ). overlay (overlay (content old) at first) place xs) front
    ∙ ap (λ (x : ℕ). overlay (overlay (content old) at first) x (take m (drop a bytes))) (here ∙ ap (λ (x : ℕ). at + x) (sym long))
    ∙ overlay-append (content old) at first (take m (drop a bytes)) (omega (arith, length-content old))
    ∙ ap (λ (xs : List ℕ). overlay (content old) at xs) (sym (take-add a m bytes))

pub stores_more : {E : Type 0} (old mid new : List Seen) (at a k place : ℕ) (bytes : List ℕ) →
    a + k ≤ length bytes → at + length bytes ≤ size_of old → place ≡ at + a → SameDisks old mid →
    (AllTell old → content mid ≡ overlay (content old) at (take a bytes)) →
    Stores {E = E} mid place (take k (drop a bytes)) (Ok tt) new → AllTell old →
    content new ≡ overlay (content old) at (take (a + k) bytes)
stores_more old mid new at a k place bytes inside within here same before stores tell =
    let piece : List ℕ = take k (drop a bytes) in
    let twice : take k piece ≡ piece = take-take k k (drop a bytes) (omega arith) in
    written_more old mid new at a k place bytes piece inside within here twice (before tell)
    (stores.written (still_tell old mid same tell) ∙ ap (λ (xs : List ℕ). overlay (content mid) place xs) (sym twice))

pub stores_cut : {E : Type 0} (old mid new : List Seen) (at a k place : ℕ) (bytes : List ℕ) (failed : E) →
    a + k ≤ length bytes → at + length bytes ≤ size_of old → place ≡ at + a → SameDisks old mid →
    (AllTell old → content mid ≡ overlay (content old) at (take a bytes)) →
    Stores {E = E} mid place (take k (drop a bytes)) (Err failed) new → AllTell old →
    IsFrontWritten (content old) at bytes (content new)
stores_cut old mid new at a k place bytes failed inside within here same before stores tell =
    let piece : List ℕ = take k (drop a bytes) in
    let long : length piece ≡ k = length-take-le k (drop a bytes) (simp length-drop (omega arith)) in
    let cut : IsFrontWritten (content mid) place piece (content new) = stores.cut (still_tell old mid same tell) in
    let m : ℕ = cut.0 in
    let few : m ≤ k = omega (arith, cut.1.0, long) in
    let front : take m piece ≡ take m (drop a bytes) = take-take m k (drop a bytes) few in
    (a + m, (omega arith, written_more old mid new at a m place bytes piece (omega arith) within here front (before tell) cut.1.1))

-- where block i behind the block of a place begins
pub block_place : (at i align other : ℕ) → at % align ≡ 0 → other ≡ align → (at / align + i) * other ≡ at + i * align
block_place at i align other whole same =
    ap (λ (a : ℕ). (at / align + i) * a) same ∙ omega (arith, div-add-mod' at align)

scaled : (m n align : ℕ) → m ≤ n → m * align ≤ n * align
scaled m n align le = grind arith

-- block i of so many bytes ends within them
pub block_within : (i n align : ℕ) → i < n / align → i * align + align ≤ n
block_within i n align below =
    omega (arith, scaled (i + 1) (n / align) align (omega arith), div-add-mod' n align)
