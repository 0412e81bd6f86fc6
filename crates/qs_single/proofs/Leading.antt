-- What the model says of a request's bytes, as contents.
use Rattle.std.proofs.Common.{◌≡◌, ℕ, ◌+◌, ◌-◌, min, ◌<◌, ◌≤◌, ◌⊎◌, inl, inr, Bool, true, false, ◌&&◌, cond, nat_le, nat_lt, List, length, get_or, take, refl, sym, ap, subst, ◌∙◌, arith, true≢false}
use Rattle.std.specs.Prelude.{Some}
use Rattle.std.proofs.lemmas.Bool.{cases_lt}
use Rattle.std.proofs.lemmas.List.{take_all}
use Rattle.qs_bytes.specs.Pieces.{overlay}
use Rattle.qs_bytes.specs.declared.ask.Errno.TheVariants.{Io}
use Rattle.qs_bytes.specs.declared.ask.Verdict.{Verdict}
use Rattle.qs_bytes.specs.declared.ask.Verdict.TheVariants.{Got, Fine, Refused}
use Rattle.qs_model.specs.Requests.{Client, body_at, covers, stores_bytes, writes}
use Rattle.qs_model.specs.Worlds.{Image, byte_at}
use Rattle.qs_model.proofs.Basics.{either}
use Rattle.qs_verdicts.specs.Stories.{Given}
use Rattle.qs_verdicts.specs.Verdicts.{verdict_by_way}
use Rattle.qs_alone.specs.Alone.{AnswerChanges, written_to}
use Rattle.qs_single.specs.Service.{LeadsTo, bytes_stored, whole_route}
use Rattle.qs_single.proofs.Contents.{front_bytes, part_bytes, same_bytes}
use Rattle.qs_single.proofs.Lines.{got_reads, has_places, has_room, was_buffered}

-- the bytes that a request stores are its client's
pub record IsOwn (c : Client) (given : List ℕ) : Type 0 where
  pub long : stores_bytes c.ask.kind ≡ true → length (bytes_stored c.ask given) ≡ c.ask.length
  pub byte : stores_bytes c.ask.kind ≡ true → c.buffered ≡ true → (i : ℕ) → i < c.ask.length → get_or c.body i 0 ≡ get_or (bytes_stored c.ask given) i 0

-- a request on its way to the whole image
abbrev pub sent : Client → ℕ → Bool → Client
sent c size writable = record c { route = whole_route size writable }

test_true : (b : Bool) (lo hi n x : ℕ) → b ≡ true → lo ≤ x → x < hi → x < n → (b && (nat_le lo x && nat_lt x hi) && nat_lt x n) ≡ true
test_true b lo hi n x is low high below = grind (arith, is, low, high, below)

test_low : (b : Bool) (lo hi n x : ℕ) → x < lo → (b && (nat_le lo x && nat_lt x hi) && nat_lt x n) ≡ false
test_low b lo hi n x low = grind (arith, low)

test_high : (b : Bool) (lo hi n x : ℕ) → min n hi ≤ x → (b && (nat_le lo x && nat_lt x hi) && nat_lt x n) ≡ false
test_high b lo hi n x high = elim (cases_lt x n) [
  | inl small ↦ let h : hi ≤ x = omega (arith, small, high) in grind (arith, h)
  | inr large ↦ grind (arith, large)
]

test_none : (b : Bool) (c d : Bool) → b ≡ false → (b && c && d) ≡ false
test_none true c d is = absurd (true≢false is)
test_none false c d is = refl

-- places that a request writes below n, and the others
module _ (A size : ℕ) (writable : Bool) (c : Client) (given : List ℕ) (old : Image) (n : ℕ) where
  pub here_written : IsOwn c given → c.buffered ≡ true → stores_bytes c.ask.kind ≡ true → (x : ℕ) → c.ask.offset ≤ x → x < c.ask.offset + c.ask.length → x < n →
      written_to A old (sent c size writable) n x ≡ get_or (bytes_stored c.ask given) (x - c.ask.offset) 0
  here_written own buffered stores x low high below =
      let off : ℕ = c.ask.offset in
      let from_none : 0 + off ≡ off = omega arith in
      ap (λ (b : Bool). cond b (body_at (sent c size writable) x) (byte_at A old x)) (test_true (writes c) (0 + off) (0 + off + c.ask.length) n x stores (omega (arith, low)) (omega (arith, high)) below)
      ∙ ap (λ (lo : ℕ). get_or c.body (x - lo) 0) from_none
      ∙ own.byte stores buffered (x - off) (omega (arith, low, high))

  pub elsewhere_kept : (x : ℕ) → (x < c.ask.offset) ⊎ (min n (c.ask.offset + c.ask.length) ≤ x) → written_to A old (sent c size writable) n x ≡ byte_at A old x
  elsewhere_kept x (inl low) =
      ap (λ (b : Bool). cond b (body_at (sent c size writable) x) (byte_at A old x)) (test_low (writes c) (0 + c.ask.offset) (0 + c.ask.offset + c.ask.length) n x (omega (arith, low)))
  elsewhere_kept x (inr high) =
      ap (λ (b : Bool). cond b (body_at (sent c size writable) x) (byte_at A old x)) (test_high (writes c) (0 + c.ask.offset) (0 + c.ask.offset + c.ask.length) n x (omega (arith, high)))

  pub none_written : stores_bytes c.ask.kind ≡ false → (x : ℕ) → written_to A old (sent c size writable) n x ≡ byte_at A old x
  none_written idle x =
      ap (λ (b : Bool). cond b (body_at (sent c size writable) x) (byte_at A old x)) (test_none (writes c) (covers (sent c size writable) x) (nat_lt x n) idle)

-- contents before and behind a request
pub record AreContents (A size : ℕ) (old new : Image) (before behind : List ℕ) : Type 0 where
  pub long : length before ≡ size
  pub long_too : length behind ≡ size
  pub was : (x : ℕ) → x < size → get_or before x 0 ≡ byte_at A old x
  pub is : (x : ℕ) → x < size → get_or behind x 0 ≡ byte_at A new x

module _ (A size : ℕ) (writable : Bool) (c : Client) (given : List ℕ) (old new : Image) (before behind : List ℕ) (contents : AreContents A size old new before behind) where
  -- a front was written
  front_written : (n : ℕ) → IsOwn c given → c.buffered ≡ true → stores_bytes c.ask.kind ≡ true → c.ask.offset + c.ask.length ≤ size →
      ((x : ℕ) → byte_at A new x ≡ written_to A old (sent c size writable) n x) →
      behind ≡ overlay before c.ask.offset (take (min (n - c.ask.offset) (length (bytes_stored c.ask given))) (bytes_stored c.ask given))
  front_written n own buffered stores fits each =
      let long : length (bytes_stored c.ask given) ≡ c.ask.length = own.long stores in
      front_bytes before behind (bytes_stored c.ask given) c.ask.offset n (contents.long_too ∙ sym contents.long) (omega (arith, fits, contents.long, long))
      (λ x low high below.
      contents.is x (omega (arith, high, long, fits)) ∙ each x ∙ here_written A size writable c given old n own buffered stores x low (omega (arith, high, long)) below)
      (λ x below other.
      let inside : x < size = omega (arith, below, contents.long) in
      contents.is x inside ∙ each x
      ∙ elsewhere_kept A size writable c given old n x (subst (λ (len : ℕ). (x < c.ask.offset) ⊎ (min n (c.ask.offset + len) ≤ x)) long other)
      ∙ sym (contents.was x inside))

  -- nothing was written
  kept : ((x : ℕ) → byte_at A new x ≡ byte_at A old x) → behind ≡ before
  kept each = same_bytes before behind (contents.long_too ∙ sym contents.long)
      (λ x below. let inside : x < size = omega (arith, below, contents.long) in contents.is x inside ∙ each x ∙ sym (contents.was x inside))

  none_kept : (n : ℕ) → stores_bytes c.ask.kind ≡ false → ((x : ℕ) → byte_at A new x ≡ written_to A old (sent c size writable) n x) → behind ≡ before
  none_kept n idle each = kept (λ x. each x ∙ none_written A size writable c given old n idle x)

  pub leading : (v : Verdict) (fault : Bool) (got : List ℕ) → IsOwn c given → verdict_by_way c.ask c.buffered (Given (whole_route size writable)) fault got ≡ Some v →
      AnswerChanges A old (sent c size writable) v new → LeadsTo before c.ask given v behind
  leading (Got bytes) fault got own line changes =
      let reads = got_reads c.ask c.buffered (whole_route size writable) fault got bytes line in
      let fits : c.ask.offset + c.ask.length ≤ size = has_places c.ask c.buffered (whole_route size writable) fault got (Got bytes) tt line reads in (
        part_bytes before bytes c.ask.offset c.ask.length changes.0 (omega (arith, fits, contents.long)) (λ i small.
            let x : ℕ = c.ask.offset + i in
            let back : i ≡ x - (0 + c.ask.offset) = omega arith in
            let covered : covers (sent c size writable) x ≡ true = grind (arith, small) in
            ap (λ (j : ℕ). get_or bytes j 0) back ∙ changes.1 x covered ∙ sym (contents.was x (omega (arith, small, fits)))),
        kept changes.2,
      )
  leading Fine fault got own line changes =
      elim (either (stores_bytes c.ask.kind)) [
        | inl stores ↦
            let fits : c.ask.offset + c.ask.length ≤ size = has_room c.ask c.buffered (whole_route size writable) fault got Fine tt line stores in
            let n : ℕ = 0 + c.ask.offset + c.ask.length in
            let long : length (bytes_stored c.ask given) ≡ c.ask.length = own.long stores in
            let all : take (min (n - c.ask.offset) (length (bytes_stored c.ask given))) (bytes_stored c.ask given) ≡ bytes_stored c.ask given =
            take_all (min (n - c.ask.offset) (length (bytes_stored c.ask given))) (bytes_stored c.ask given) (omega (arith, long)) in
            inl (
              stores,
              front_written n own (was_buffered c.ask c.buffered (whole_route size writable) fault got Fine tt line) stores fits changes
                  ∙ ap (λ (bytes : List ℕ). overlay before c.ask.offset bytes) all,
            )
        | inr idle ↦ inr (idle, none_kept (0 + c.ask.offset + c.ask.length) idle changes)
      ]
  leading (Refused Io) fault got own line changes =
      elim (either (stores_bytes c.ask.kind)) [
        | inl stores ↦
            let fits : c.ask.offset + c.ask.length ≤ size = has_room c.ask c.buffered (whole_route size writable) fault got (Refused Io) tt line stores in
            inr (
              stores,
              (
                min (changes.0 - c.ask.offset) (length (bytes_stored c.ask given)),
                (
                  omega arith,
                  front_written changes.0 own (was_buffered c.ask c.buffered (whole_route size writable) fault got (Refused Io) tt line) stores fits changes.1,
                ),
              ),
            )
        | inr idle ↦ inl (none_kept changes.0 idle changes.1)
      ]
  leading _ fault got own line changes = kept changes
