-- Laws of the heads of requests and their bytes.
use Rattle.std.proofs.Common.{◌≡◌, ℕ, List, [], ◌++◌, length, take, refl, ap, sym, ◌∙◌, append_assoc, arith, lit<}
use Rattle.std.proofs.Math.Seq.{take-add}
use Rattle.std.proofs.lemmas.List.{length-append, take_all, append-nil}
use Rattle.qs_bytes.specs.Numbers.{bytes16, bytes32, bytes64, number16, number32, number64}
use Rattle.qs_bytes.specs.Pieces.{part}
use Rattle.qs_nbd_wire.specs.declared.request.RequestHead.{RequestHead}
use Rattle.qs_nbd_wire.specs.Options.{AreBytes}
use Rattle.qs_nbd_wire.specs.Requests.{request_magic, FitsHead, head_bytes, head_of, IsHead}
use Rattle.qs_nbd_wire.specs.Laws.{SpellsHeads}
use Rattle.qs_nbd_wire.proofs.Widths.{length-bytes16, length-bytes32, length-bytes64, number16_at, number32_at, number64_at, bytes16-number16, bytes32-number32, bytes64-number64}

pub length-head_bytes : (h : RequestHead) → length (head_bytes h) ≡ 28
unfolding head_bytes
length-head_bytes h =
    simp (length-append, length-bytes16, length-bytes32, length-bytes64)

same_head : (h : RequestHead) (flags kind cookie offset size : ℕ) → flags ≡ h.flags → kind ≡ h.kind → cookie ≡ h.cookie → offset ≡ h.offset → size ≡ h.size → record { flags = flags; kind = kind; cookie = cookie; offset = offset; size = size } ≡ h
same_head h flags kind cookie offset size e1 e2 e3 e4 e5 = rw (e1, e2, e3, e4, e5) refl

-- six lists and a rest, grouped round each of them
group2 : (a b c d e f r : List ℕ) → a ++ b ++ c ++ d ++ e ++ f ++ r ≡ a ++ b ++ (c ++ (d ++ (e ++ (f ++ r))))
group2 a b c d e f r = simp append_assoc

group3 : (a b c d e f r : List ℕ) → a ++ b ++ c ++ d ++ e ++ f ++ r ≡ a ++ b ++ c ++ (d ++ (e ++ (f ++ r)))
group3 a b c d e f r = simp append_assoc

group4 : (a b c d e f r : List ℕ) → a ++ b ++ c ++ d ++ e ++ f ++ r ≡ a ++ b ++ c ++ d ++ (e ++ (f ++ r))
group4 a b c d e f r = simp append_assoc

group5 : (a b c d e f r : List ℕ) → a ++ b ++ c ++ d ++ e ++ f ++ r ≡ a ++ b ++ c ++ d ++ e ++ (f ++ r)
group5 a b c d e f r = simp append_assoc

group1 : (a b c d e f r : List ℕ) → a ++ b ++ c ++ d ++ e ++ f ++ r ≡ a ++ (b ++ (c ++ (d ++ (e ++ (f ++ r)))))
group1 a b c d e f r = simp append_assoc

-- what a head's bytes spell is the head
pub head_of-head_bytes : (h : RequestHead) (rest : List ℕ) → FitsHead h → head_of (head_bytes h ++ rest) ≡ h
unfolding head_bytes head_of
head_of-head_bytes h rest fits =
    let a = bytes32 request_magic in
    let b = bytes16 h.flags in
    let c = bytes16 h.kind in
    let d = bytes64 h.cookie in
    let e = bytes64 h.offset in
    let f = bytes32 h.size in
    same_head h _ _ _ _ _
    (ap (λ xs. number16 xs 4) (group2 a b c d e f rest)
    ∙ number16_at a (c ++ (d ++ (e ++ (f ++ rest)))) h.flags 4 (length-bytes32 request_magic) fits.flags)
    (ap (λ xs. number16 xs 6) (group3 a b c d e f rest)
    ∙ number16_at (a ++ b) (d ++ (e ++ (f ++ rest))) h.kind 6 (simp (length-append, length-bytes16, length-bytes32)) fits.kind)
    (ap (λ xs. number64 xs 8) (group4 a b c d e f rest)
    ∙ number64_at (a ++ b ++ c) (e ++ (f ++ rest)) h.cookie 8 (simp (length-append, length-bytes16, length-bytes32)) fits.cookie)
    (ap (λ xs. number64 xs 16) (group5 a b c d e f rest)
    ∙ number64_at (a ++ b ++ c ++ d) (f ++ rest) h.offset 16 (simp (length-append, length-bytes16, length-bytes32, length-bytes64)) fits.offset)
    (number32_at (a ++ b ++ c ++ d ++ e) rest h.size 24 (simp (length-append, length-bytes16, length-bytes32, length-bytes64)) fits.size)

-- a head's bytes begin with the magic
pub magic-head_bytes : (h : RequestHead) (rest : List ℕ) → number32 (head_bytes h ++ rest) 0 ≡ request_magic
unfolding head_bytes
magic-head_bytes h rest =
    let a = bytes32 request_magic in
    let b = bytes16 h.flags in
    let c = bytes16 h.kind in
    let d = bytes64 h.cookie in
    let e = bytes64 h.offset in
    let f = bytes32 h.size in
    ap (λ xs. number32 xs 0) (group1 a b c d e f rest)
    ∙ number32_at [] (b ++ (c ++ (d ++ (e ++ (f ++ rest))))) request_magic 0 refl (lit< tt)

-- 28 bytes behind the magic are a head
pub head_is : (bytes : List ℕ) → AreBytes bytes → length bytes ≡ 28 → number32 bytes 0 ≡ request_magic → FitsHead (head_of bytes) → IsHead bytes (head_of bytes)
unfolding head_bytes head_of
head_is bytes all whole magic fits = record {
  fits = fits;
  spelled =
      let p0 : bytes32 request_magic ≡ take 4 bytes = ap bytes32 (sym magic) ∙ bytes32-number32 bytes 0 all (omega arith) in
      let p4 = bytes16-number16 bytes 4 all (omega arith) in
      let p6 = bytes16-number16 bytes 6 all (omega arith) in
      let p8 = bytes64-number64 bytes 8 all (omega arith) in
      let p16 = bytes64-number64 bytes 16 all (omega arith) in
      let p24 = bytes32-number32 bytes 24 all (omega arith) in
      let q6 : take 6 bytes ≡ take 4 bytes ++ part bytes 4 2 = take-add 4 2 bytes in
      let q8 : take 8 bytes ≡ take 6 bytes ++ part bytes 6 2 = take-add 6 2 bytes in
      let q16 : take 16 bytes ≡ take 8 bytes ++ part bytes 8 8 = take-add 8 8 bytes in
      let q24 : take 24 bytes ≡ take 16 bytes ++ part bytes 16 8 = take-add 16 8 bytes in
      let q28 : take 28 bytes ≡ take 24 bytes ++ part bytes 24 4 = take-add 24 4 bytes in
      let w : take 28 bytes ≡ bytes = take_all 28 bytes (omega arith) in
      cc;
}

-- a head is read back
pub head_again : (h : RequestHead) → FitsHead h → head_of (head_bytes h) ≡ h
head_again h fits = ap (λ xs. head_of xs) (sym (append-nil (head_bytes h))) ∙ head_of-head_bytes h [] fits

pub spells_heads : SpellsHeads
spells_heads = record {
  whole = length-head_bytes;
  again = head_again;
  one = λ bytes a b p q. sym (head_again a p.fits) ∙ ap (λ xs. head_of xs) (sym p.spelled ∙ q.spelled) ∙ head_again b q.fits;
}
