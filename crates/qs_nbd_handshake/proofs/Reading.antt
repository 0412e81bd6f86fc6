-- What a handshake tells depends on the bytes alone, however they are cut.
use Rattle.std.proofs.Common.{◌≡◌, ℕ, Bool, List, ◌++◌, length, take, Option, Some, None, refl, ap, sym, ◌∙◌, subst, append_assoc, arith}
use Rattle.std.proofs.lemmas.List.{length-append, take_at, append_cancel_left}
use Rattle.qs_bytes.specs.Numbers.{number32}
use Rattle.qs_nbd_wire.specs.Greetings.{flags_of}
use Rattle.qs_nbd_handshake.specs.declared.event.HandEvent.{HandEvent}
use Rattle.qs_nbd_handshake.specs.declared.stage.Terms.{Terms}
use Rattle.qs_nbd_handshake.specs.Phases.{Phase, InFlags, InOption, Asked, Over, Stuck, Reader, Leads, Reaches, FlagsTell, OptionTells, behind_flags, flags_event, option_event, option_phase, option_size}
use Rattle.qs_nbd_handshake.specs.Laws.{JoinsPieces, ReadsOnce}
use Rattle.qs_nbd_handshake.proofs.Sizes.{size-append, size-least}

joined : (terms : Terms) (phase : Phase) (middle new : Reader) (first second : List ℕ) (told : Option HandEvent) →
    Leads terms phase first None middle → Reaches middle second told new → Leads terms phase (first ++ second) told new
joined terms (InFlags held) middle new a b told p q =
    subst (λ (xs : List ℕ). FlagsTell terms xs told new) (append_assoc held a b)
    (subst (λ (m : Reader). Reaches m b told new) p.1 q)
joined terms (InOption held) middle new a b told p q =
    subst (λ (xs : List ℕ). OptionTells terms xs told new) (append_assoc held a b)
    (subst (λ (m : Reader). Reaches m b told new) p.1 q)
joined terms (Asked w) middle new a b told p q = absurd p
joined terms (Over how) middle new a b told p q = absurd p
joined terms (Stuck bad) middle new a b told p q = let e = p.1 in absurd (cc)

pub joins_pieces : JoinsPieces
joins_pieces old middle new first second told p q = joined old.terms old.phase middle new first second told p q

-- fronts of equal length of one list are one
pub same_front : (xs ys more rest : List ℕ) → length xs ≡ length ys → xs ++ more ≡ ys ++ rest → xs ≡ ys
same_front xs ys more rest e f = sym (take_at xs more (length xs) refl) ∙ ap (λ zs. take (length xs) zs) f ∙ take_at ys rest (length xs) (sym e)

behind_held : (held xs ys more rest : List ℕ) → xs ++ more ≡ ys ++ rest → held ++ xs ++ more ≡ held ++ ys ++ rest
behind_held held xs ys more rest e =
    append_assoc held xs more ∙ ap (λ zs. held ++ zs) e ∙ sym (append_assoc held ys rest)

-- an option has one end
pub same_option : (fixed : Bool) (xs ys more rest : List ℕ) → length xs ≡ option_size fixed xs → length ys ≡ option_size fixed ys →
    xs ++ more ≡ ys ++ rest → xs ≡ ys
same_option fixed xs ys more rest p q e =
    let a = size-append fixed xs more (omega (arith, p, size-least fixed xs)) in
    let b = size-append fixed ys rest (omega (arith, q, size-least fixed ys)) in
    same_front xs ys more rest (p ∙ sym a ∙ ap (λ zs. option_size fixed zs) e ∙ b ∙ sym q) e

once : (terms : Terms) (phase : Phase) (one other : Reader) (first second more rest : List ℕ) (told again : HandEvent) →
    Leads terms phase first (Some told) one → Leads terms phase second (Some again) other →
    first ++ more ≡ second ++ rest → (first ≡ second) × (told ≡ again) × (one ≡ other)
once terms (InFlags held) one other first second more rest told again p q e =
    let same = same_front (held ++ first) (held ++ second) more rest (p.0 ∙ sym q.0) (behind_held held first second more rest e) in (
      append_cancel_left held first second same,
      p.1 ∙ ap (λ xs. flags_event (number32 xs 0) (flags_of (number32 xs 0))) same ∙ sym q.1,
      p.2 ∙ ap (λ xs. behind_flags terms (number32 xs 0) (flags_of (number32 xs 0))) same ∙ sym q.2,
    )
once terms (InOption held) one other first second more rest told again p q e =
    let same = same_option terms.fixed (held ++ first) (held ++ second) more rest p.0 q.0 (behind_held held first second more rest e) in
    let behind : List ℕ → Reader = λ xs. record { terms = terms; phase = option_phase terms.fixed xs } in (
      append_cancel_left held first second same,
      p.1 ∙ ap (λ xs. option_event terms.fixed xs) same ∙ sym q.1,
      p.2 ∙ ap behind same ∙ sym q.2,
    )
once terms (Asked w) one other first second more rest told again p q e = absurd p
once terms (Over how) one other first second more rest told again p q e = absurd p
once terms (Stuck bad) one other first second more rest told again p q e =
    (p.0 ∙ sym q.0, let f = p.1 ∙ sym q.1 in cc, p.2 ∙ sym q.2)

never : (terms : Terms) (phase : Phase) (one other : Reader) (first more : List ℕ) (told : HandEvent) →
    Leads terms phase first (Some told) one → Leads terms phase (first ++ more) None other → ⊥
never terms (InFlags held) one other first more told p q =
    omega (arith, p.0, q.0, length-append (held ++ first) more, ap (λ xs. length xs) (append_assoc held first more))
never terms (InOption held) one other first more told p q =
    let a = size-append terms.fixed (held ++ first) more (omega (arith, p.0, size-least terms.fixed (held ++ first))) in
    omega (
      arith,
      p.0,
      q.0,
      a,
      ap (λ xs. option_size terms.fixed xs) (append_assoc held first more),
      length-append (held ++ first) more,
      ap (λ xs. length xs) (append_assoc held first more),
    )
never terms (Asked w) one other first more told p q = p
never terms (Over how) one other first more told p q = p
never terms (Stuck bad) one other first more told p q = let f = q.1 in cc

pub reads_once : ReadsOnce
reads_once = record {
  same = λ old one other first second more rest told again p q e. once old.terms old.phase one other first second more rest told again p q e;
  none = λ old one other first more told p q. never old.terms old.phase one other first more told p q;
}
