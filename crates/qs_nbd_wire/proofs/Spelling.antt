-- Laws of the spellings of options and replies.
use Rattle.std.proofs.Common.{◌≡◌, ℕ, ◌+◌, ◌<◌, ◌≤◌, ◌^◌, List, [], ◌++◌, length, take, drop, refl, ap, sym, ◌∙◌, append_assoc, arith, lit<}
use Rattle.std.proofs.Math.Seq.{take-add}
use Rattle.std.proofs.lemmas.List.{length-append, take_all, drop_at, take-append-drop, nil_from_length, length-drop, append-nil}
use Rattle.qs_bytes.specs.Numbers.{bytes16, bytes32, bytes64, number32, number64}
use Rattle.qs_bytes.specs.Pieces.{part}
use Rattle.qs_nbd_wire.specs.declared.option.OptionHead.{OptionHead}
use Rattle.qs_nbd_wire.specs.Options.{AreBytes, ClientOption, option_head_bytes, option_bytes, option_head_of, option_magic}
use Rattle.qs_nbd_wire.specs.Exports.{export_answer, zeros_told, flags_of_export}
use Rattle.qs_nbd_wire.specs.Replies.{option_reply, reply_front, reply_magic, sizes_payload, export_payload, server_payload}
use Rattle.qs_nbd_wire.specs.Laws.{Reply, FitsReply, SpellsFlags, SpellsOptions, RepliesStandApart, AnswersStandApart}
use Rattle.qs_nbd_wire.proofs.Widths.{length-bytes16, length-bytes32, length-bytes64, number32_at, number64_at, bytes32-number32, bytes64-number64}

pub spells_flags : SpellsFlags
spells_flags = record {
  whole = length-bytes32;
  again = λ flags more fits. number32_at [] more flags 0 refl fits;
  one = λ bytes all four.
      sym (bytes32-number32 bytes 0 all (omega arith) ∙ take_all 4 bytes (omega arith));
}

pub length-option_head_bytes : (number size : ℕ) → length (option_head_bytes number size) ≡ 16
unfolding option_head_bytes
length-option_head_bytes number size = simp (length-append, length-bytes32, length-bytes64)

pub length-option_bytes : (o : ClientOption) → length (option_bytes o) ≡ 16 + length o.content
length-option_bytes o =
    length-append (option_head_bytes o.number (length o.content)) o.content
    ∙ ap (λ n. n + length o.content) (length-option_head_bytes o.number (length o.content))

same_head : (h : OptionHead) (magic number size : ℕ) → magic ≡ h.magic → number ≡ h.number → size ≡ h.length →
    record { magic = magic; number = number; length = size } ≡ h
same_head h magic number size e f g = rw (e, f, g) refl

-- a head is read back, whatever follows it
pub option_head_of-option_head_bytes : (number size : ℕ) (rest : List ℕ) → number < 2 ^ 32 → size < 2 ^ 32 →
    option_head_of (option_head_bytes number size ++ rest) ≡ record { magic = option_magic; number = number; length = size }
unfolding option_head_bytes option_head_of
option_head_of-option_head_bytes number size rest fits short =
    let a = bytes64 option_magic in
    let b = bytes32 number in
    let c = bytes32 size in
    same_head (record { magic = option_magic; number = number; length = size }) _ _ _
    (ap (λ xs. number64 xs 0) (append_assoc (a ++ b) c rest ∙ append_assoc a b (c ++ rest))
    ∙ number64_at [] (b ++ (c ++ rest)) option_magic 0 refl (lit< tt))
    (ap (λ xs. number32 xs 8) (append_assoc (a ++ b) c rest)
    ∙ number32_at a (c ++ rest) number 8 (length-bytes64 option_magic) fits)
    (number32_at (a ++ b) rest size 12 (simp (length-append, length-bytes32, length-bytes64)) short)

-- the sixteen bytes of a head are its spelling
pub head_spelled : (bytes : List ℕ) → AreBytes bytes → 16 ≤ length bytes → (option_head_of bytes).magic ≡ option_magic →
    take 16 bytes ≡ option_head_bytes (option_head_of bytes).number (option_head_of bytes).length
unfolding option_head_bytes option_head_of
head_spelled bytes all whole magic =
    let p0 : bytes64 option_magic ≡ take 8 bytes = ap bytes64 (sym magic) ∙ bytes64-number64 bytes 0 all (omega arith) in
    let p8 = bytes32-number32 bytes 8 all (omega arith) in
    let p12 = bytes32-number32 bytes 12 all (omega arith) in
    let q12 : take 12 bytes ≡ take 8 bytes ++ part bytes 8 4 = take-add 8 4 bytes in
    let q16 : take 16 bytes ≡ take 12 bytes ++ part bytes 12 4 = take-add 12 4 bytes in
    cc

pub option_spelled : (bytes : List ℕ) → AreBytes bytes → (option_head_of bytes).magic ≡ option_magic →
    length bytes ≡ 16 + (option_head_of bytes).length →
    bytes ≡ option_bytes (record { number = (option_head_of bytes).number; content = drop 16 bytes })
option_spelled bytes all magic whole =
    let size : length (drop 16 bytes) ≡ (option_head_of bytes).length = omega (arith, length-drop 16 bytes) in
    sym (take-append-drop 16 bytes)
    ∙ ap (λ xs. xs ++ drop 16 bytes) (head_spelled bytes all (omega arith) magic)
    ∙ ap (λ n. option_head_bytes (option_head_of bytes).number n ++ drop 16 bytes) (sym size)

pub spells_options : SpellsOptions
spells_options = record {
  whole = length-option_bytes;
  again = λ o more fits.
      ap option_head_of (append_assoc (option_head_bytes o.number (length o.content)) o.content more)
      ∙ option_head_of-option_head_bytes o.number (length o.content) (o.content ++ more) fits.number fits.content;
  one = option_spelled;
}

length-reply_front : (number kind size : ℕ) → length (reply_front number kind size) ≡ 20
unfolding reply_front
length-reply_front number kind size = simp (length-append, length-bytes32, length-bytes64)

number-reply : (number kind size : ℕ) (rest : List ℕ) → number < 2 ^ 32 → number32 (reply_front number kind size ++ rest) 8 ≡ number
unfolding reply_front
number-reply number kind size rest fits =
    let a = bytes64 reply_magic in
    let b = bytes32 number in
    let c = bytes32 kind in
    let d = bytes32 size in
    ap (λ xs. number32 xs 8) (append_assoc (a ++ b ++ c) d rest ∙ append_assoc (a ++ b) c (d ++ rest))
    ∙ number32_at a (c ++ (d ++ rest)) number 8 (length-bytes64 reply_magic) fits

kind-reply : (number kind size : ℕ) (rest : List ℕ) → kind < 2 ^ 32 → number32 (reply_front number kind size ++ rest) 12 ≡ kind
unfolding reply_front
kind-reply number kind size rest fits =
    let a = bytes64 reply_magic in
    let b = bytes32 number in
    let c = bytes32 kind in
    let d = bytes32 size in
    ap (λ xs. number32 xs 12) (append_assoc (a ++ b ++ c) d rest)
    ∙ number32_at (a ++ b) (d ++ rest) kind 12 (simp (length-append, length-bytes32, length-bytes64)) fits

size-reply : (number kind size : ℕ) (rest : List ℕ) → size < 2 ^ 32 → number32 (reply_front number kind size ++ rest) 16 ≡ size
unfolding reply_front
size-reply number kind size rest fits =
    number32_at (bytes64 reply_magic ++ bytes32 number ++ bytes32 kind) rest size 16
    (simp (length-append, length-bytes32, length-bytes64)) fits

-- payloads are short
pub short-sizes : length sizes_payload < 2 ^ 32
short-sizes = simp (length-append, length-bytes16, length-bytes32) (lit< tt)

pub short-export : (size flags : ℕ) → length (export_payload size flags) < 2 ^ 32
short-export size flags = simp (length-append, length-bytes16, length-bytes64) (lit< tt)

pub short-server : (name : List ℕ) → length name ≤ 63 → length (server_payload name) < 2 ^ 32
short-server name short = omega (arith, short, length-append (bytes32 (length name)) name, length-bytes32 (length name))

-- the replies' fields are where they stand, whatever follows them
same_fields : (r other : Reply) (more : List ℕ) → FitsReply r → FitsReply other →
    option_reply other.number other.kind other.payload ≡ option_reply r.number r.kind r.payload ++ more →
    (other.number ≡ r.number) × (other.kind ≡ r.kind) × (length other.payload ≡ length r.payload)
same_fields r other more p q e =
    let f = e ∙ append_assoc (reply_front r.number r.kind (length r.payload)) r.payload more in (
      sym (number-reply other.number other.kind (length other.payload) other.payload q.number) ∙ ap (λ xs. number32 xs 8) f
          ∙ number-reply r.number r.kind (length r.payload) (r.payload ++ more) p.number,
      sym (kind-reply other.number other.kind (length other.payload) other.payload q.kind) ∙ ap (λ xs. number32 xs 12) f
          ∙ kind-reply r.number r.kind (length r.payload) (r.payload ++ more) p.kind,
      sym (size-reply other.number other.kind (length other.payload) other.payload q.payload) ∙ ap (λ xs. number32 xs 16) f
          ∙ size-reply r.number r.kind (length r.payload) (r.payload ++ more) p.payload,
    )

same_reply : (r other : Reply) → other.number ≡ r.number → other.kind ≡ r.kind → other.payload ≡ r.payload → other ≡ r
same_reply r other e f g =
    ap (λ n. record { number = n; kind = other.kind; payload = other.payload }) e
    ∙ ap (λ n. record { number = r.number; kind = n; payload = other.payload }) f
    ∙ ap (λ xs. record { number = r.number; kind = r.kind; payload = xs }) g

pub replies_stand_apart : RepliesStandApart
replies_stand_apart r other more p q e =
    let s = same_fields r other more p q e in
    let none : more ≡ [] = nil_from_length more (omega (
      arith,
      s.2,
      ap (λ xs. length xs) e,
      length-append (option_reply r.number r.kind r.payload) more,
      length-append (reply_front r.number r.kind (length r.payload)) r.payload,
      length-append (reply_front other.number other.kind (length other.payload)) other.payload,
      length-reply_front r.number r.kind (length r.payload),
      length-reply_front other.number other.kind (length other.payload),
    )) in
    let whole : option_reply other.number other.kind other.payload ≡ option_reply r.number r.kind r.payload =
    e ∙ ap (λ xs. option_reply r.number r.kind r.payload ++ xs) none ∙ append-nil (option_reply r.number r.kind r.payload) in
    let payload : other.payload ≡ r.payload =
    sym (drop_at (reply_front other.number other.kind (length other.payload)) other.payload 20 (length-reply_front other.number other.kind (length other.payload)))
    ∙ ap (λ xs. drop 20 xs) whole
    ∙ drop_at (reply_front r.number r.kind (length r.payload)) r.payload 20 (length-reply_front r.number r.kind (length r.payload)) in
    (same_reply r other s.0 s.1 payload, none)

length-answer : (size flags : ℕ) (zeros : List ℕ) → length (bytes64 size ++ bytes16 flags ++ zeros) ≡ 10 + length zeros
length-answer size flags zeros =
    length-append (bytes64 size ++ bytes16 flags) zeros
    ∙ ap (λ n. n + length zeros) (length-append (bytes64 size) (bytes16 flags) ∙ grind (arith, length-bytes64 size, length-bytes16 flags))

pub answers_stand_apart : AnswersStandApart
answers_stand_apart mode info other more e =
    nil_from_length more (omega (
      arith,
      ap (λ xs. length xs) e,
      length-append (export_answer mode info) more,
      length-answer info.size (flags_of_export info mode.structured) (zeros_told mode.no_zeroes),
      length-answer other.size (flags_of_export other mode.structured) (zeros_told mode.no_zeroes),
    ))
