-- How long the option is that begins with some bytes.
use Rattle.std.proofs.Common.{◌≡◌, ℕ, ◌+◌, ◌<◌, ◌≤◌, Bool, true, false, not, ◌&&◌, ◌==◌, nat_lt, if◌then◌else◌, List, ◌++◌, length, Some, None, refl, ap, sym, ◌∙◌, arith, inl, inr}
use Rattle.std.proofs.lemmas.Bool.{lt-ltb, le-ltb, ltb-false, cases_lt}
use Rattle.std.proofs.lemmas.List.{length-append}
use Rattle.qs_status.specs.declared.status.SessionEnd.{SessionEnd}
use Rattle.qs_nbd_wire.specs.declared.option.OptionHead.{OptionHead}
use Rattle.qs_nbd_wire.specs.Options.{option_head_of, option_magic}
use Rattle.qs_nbd_wire.proofs.Widths.{number32-append_at, number64-append}
use Rattle.qs_nbd_handshake.specs.Wishes.{option_fault, longest_option}
use Rattle.qs_nbd_handshake.specs.Phases.{data_size, option_size}

-- sixteen bytes tell the head
pub head-append : (bytes more : List ℕ) → 16 ≤ length bytes → option_head_of (bytes ++ more) ≡ option_head_of bytes
unfolding option_head_of
head-append bytes more whole =
    let a = number64-append bytes more (omega arith) in
    let b = number32-append_at bytes more 8 (omega arith) in
    let c = number32-append_at bytes more 12 (omega arith) in
    rw (a, b, c) refl

pub size-short : (fixed : Bool) (bytes : List ℕ) → length bytes < 16 → option_size fixed bytes ≡ 16
size-short fixed bytes short = let e = lt-ltb (length bytes) 16 short in rw e refl

pub size-long : (fixed : Bool) (bytes : List ℕ) → 16 ≤ length bytes →
    option_size fixed bytes ≡ 16 + data_size (option_fault fixed (option_head_of bytes)) (option_head_of bytes).length
size-long fixed bytes long = let e = le-ltb (length bytes) 16 long in rw e refl

pub size-append : (fixed : Bool) (bytes more : List ℕ) → 16 ≤ length bytes → option_size fixed (bytes ++ more) ≡ option_size fixed bytes
size-append fixed bytes more long =
    size-long fixed (bytes ++ more) (omega (arith, length-append bytes more))
    ∙ ap (λ (h : OptionHead). 16 + data_size (option_fault fixed h) h.length) (head-append bytes more long)
    ∙ sym (size-long fixed bytes long)

pub size-least : (fixed : Bool) (bytes : List ℕ) → 16 ≤ option_size fixed bytes
size-least fixed bytes =
    elim (cases_lt (length bytes) 16) [
      | inl short ↦ omega (arith, size-short fixed bytes short)
      | inr long ↦ omega (arith, size-long fixed bytes long)
    ]

pub size-grows : (fixed : Bool) (bytes more : List ℕ) → option_size fixed bytes ≤ option_size fixed (bytes ++ more)
size-grows fixed bytes more =
    elim (cases_lt (length bytes) 16) [
      | inl short ↦ omega (arith, size-short fixed bytes short, size-least fixed (bytes ++ more))
      | inr long ↦ omega (arith, size-append fixed bytes more long)
    ]

most : (a b c : Bool) (one two three : SessionEnd) (size : ℕ) → nat_lt longest_option size ≡ b →
    data_size (if a then Some one else (if b then Some two else (if c then Some three else None))) size ≤ longest_option
most true b c one two three size e = omega arith
most false true c one two three size e = omega arith
most false false true one two three size e = omega arith
most false false false one two three size e = ltb-false longest_option size e

-- no more data than the most are read
pub data-most : (fixed : Bool) (h : OptionHead) → data_size (option_fault fixed h) h.length ≤ 65536
data-most fixed h = most (not (h.magic == option_magic)) (nat_lt longest_option h.length) (not fixed && not (h.number == 1)) _ _ _ h.length refl
