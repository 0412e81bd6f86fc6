-- Laws of heads and their bytes.
use Rattle.std.proofs.Common.{◌≡◌, ◌≢◌, ℕ, ◌+◌, ◌-◌, ◌<◌, ◌≤◌, List, ◌++◌, length, take, ap, sym, ◌∙◌, arith, inl, inr, lit≤}
use Rattle.std.proofs.lemmas.Bool.{cases_lt}
use Rattle.std.proofs.lemmas.List.{length-take, length-take-le}
use Rattle.qs_bytes.specs.Numbers.{number32}
use Rattle.qs_bytes.specs.Pieces.{overlay}
use Rattle.qs_nbd_wire.specs.Requests.{request_magic}
use Rattle.qs_nbd_transmission.specs.Heads.{IsHeadFront}
use Rattle.qs_nbd_wire.proofs.Widths.{number32-take}
use Rattle.qs_nbd_wire.proofs.Overlays.{take-overlay_below, take-overlay_within}

-- a front of a head's bytes is less than a head, or the magic stands before it
pub front_more : (head : List ℕ) (n : ℕ) → n < 28 → (4 ≤ n → number32 head 0 ≡ request_magic) → IsHeadFront (take n head)
front_more head n short magic = record {
  short = omega (arith, length-take n head);
  magic = λ four. let h : 4 ≤ n = omega (arith, length-take n head) in number32-take head n h ∙ magic h;
}

-- where no magic stands in a head of which some bytes were there before, fewer than four were
pub below_four : (head piece : List ℕ) (held : ℕ) → length head ≡ 28 → held < 28 → IsHeadFront (take held head) → number32 (overlay head held piece) 0 ≢ request_magic → held < 4
below_four head piece held whole short front ne =
    elim (cases_lt held 4) [
      | inl below ↦ below
      | inr four ↦ absurd (ne (
          sym (number32-take (overlay head held piece) 4 (lit≤ tt))
          ∙ ap (λ xs. number32 xs 0) (take-overlay_below head held piece 4 (omega arith) four)
          ∙ number32-take head 4 (lit≤ tt)
          ∙ sym (number32-take head held four)
          ∙ front.magic (omega (arith, length-take-le held head (omega arith)))))
    ]

-- the four bytes that a head begins with, of which some were there before
pub first_four : (head piece : List ℕ) (held : ℕ) → length head ≡ 28 → held < 4 → 4 ≤ held + length piece → number32 (take held head ++ take (4 - held) piece) 0 ≡ number32 (overlay head held piece) 0
first_four head piece held whole short four =
    ap (λ xs. number32 xs 0) (sym (take-overlay_within head held piece 4 (omega arith) (omega arith) four))
    ∙ number32-take (overlay head held piece) 4 (lit≤ tt)
