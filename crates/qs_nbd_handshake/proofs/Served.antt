-- Whole options, and the spellings of options that may be sent.
use Rattle.std.proofs.Common.{◌≡◌, ℕ, ◌+◌, Bool, true, false, not, ◌==◌, if◌then◌else◌, List, length, drop, Option, Some, None, refl, ap, sym, ◌∙◌, arith}
use Rattle.std.proofs.lemmas.Bool.{eqb-true}
use Rattle.std.proofs.lemmas.List.{drop_at}
use Rattle.qs_status.specs.declared.status.SessionEnd.{SessionEnd}
use Rattle.qs_nbd_wire.specs.declared.option.OptionHead.{OptionHead}
use Rattle.qs_nbd_wire.specs.Options.{ClientOption, FitsOption, option_head_bytes, option_bytes, option_head_of, option_magic}
use Rattle.qs_nbd_wire.proofs.Spelling.{length-option_head_bytes, length-option_bytes, option_head_of-option_head_bytes, option_spelled}
use Rattle.qs_nbd_handshake.specs.Phases.{data_size, option_size}
use Rattle.qs_nbd_handshake.specs.Sessions.{IsOption, SpellsServed, head_for}
use Rattle.qs_nbd_handshake.specs.Wishes.{option_fault, wish_of}
use Rattle.qs_nbd_handshake.proofs.Sizes.{size-least, size-long}

first_rule : (a : Bool) (bad : SessionEnd) (rest : Option SessionEnd) → (if not a then Some bad else rest) ≡ None → a ≡ true
first_rule true bad rest e = refl
first_rule false bad rest e = absurd (cc)

-- a head that breaks no rule begins with the magic
magic_served : (fixed : Bool) (h : OptionHead) → option_fault fixed h ≡ None → h.magic ≡ option_magic
magic_served fixed h e = eqb-true h.magic option_magic (first_rule (h.magic == option_magic) _ _ e)

served_size : (fixed : Bool) (bytes : List ℕ) → IsOption fixed bytes → length bytes ≡ 16 + (option_head_of bytes).length
served_size fixed bytes is =
    is.whole ∙ size-long fixed bytes (omega (arith, is.whole, size-least fixed bytes))
    ∙ ap (λ (o : Option SessionEnd). 16 + data_size o (option_head_of bytes).length) is.served

head_read : (o : ClientOption) → FitsOption o → option_head_of (option_bytes o) ≡ head_for o
head_read o fits = option_head_of-option_head_bytes o.number (length o.content) o.content fits.number fits.content

content_read : (o : ClientOption) → drop 16 (option_bytes o) ≡ o.content
content_read o = drop_at (option_head_bytes o.number (length o.content)) o.content 16 (length-option_head_bytes o.number (length o.content))

pub spells_served : SpellsServed
spells_served = record {
  spelled = λ fixed bytes all is.
      (option_spelled bytes all (magic_served fixed (option_head_of bytes) is.served) (served_size fixed bytes is), refl);
  served = λ fixed o fits none.
      let fault : option_fault fixed (option_head_of (option_bytes o)) ≡ None = ap (λ (h : OptionHead). option_fault fixed h) (head_read o fits) ∙ none in
      let whole : length (option_bytes o) ≡ option_size fixed (option_bytes o) =
      length-option_bytes o
      ∙ ap (λ (h : OptionHead). 16 + h.length) (sym (head_read o fits))
      ∙ ap (λ (d : Option SessionEnd). 16 + data_size d (option_head_of (option_bytes o)).length) (sym fault)
      ∙ sym (size-long fixed (option_bytes o) (omega (arith, length-option_bytes o))) in (
        record { whole = whole; served = fault },
        ap (λ (h : OptionHead). wish_of h.number (drop 16 (option_bytes o))) (head_read o fits) ∙ ap (λ xs. wish_of o.number xs) (content_read o),
      );
}
