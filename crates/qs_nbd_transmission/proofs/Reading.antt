-- What a reader tells depends on the bytes alone, however they are cut.
use Rattle.std.proofs.Common.{◌≡◌, ◌≢◌, ℕ, ◌+◌, ◌≤◌, Bool, true, false, ◌&&◌, ◌==◌, nat_lt, if◌then◌else◌, List, [], ◌++◌, length, take, Option, Some, None, refl, ap, sym, ◌∙◌, subst, append_assoc, arith, ◌⊎◌, inl, inr}
use Rattle.std.proofs.lemmas.Bool.{eq-eqb, ne_eqb, cases_eq}
use Rattle.std.proofs.lemmas.List.{length-append, take_at, append_cancel_left}
use Rattle.qs_bytes.specs.Numbers.{number32}
use Rattle.qs_status.specs.declared.status.SessionEnd.TheVariants.{BadMagic, TooLong}
use Rattle.qs_nbd_wire.specs.declared.request.RequestHead.{RequestHead}
use Rattle.qs_nbd_transmission.specs.declared.event.Room.TheVariants.{Keep, Drop}
use Rattle.qs_nbd_transmission.specs.declared.event.WireEvent.{WireEvent}
use Rattle.qs_nbd_transmission.specs.declared.event.WireEvent.TheVariants as event
use Rattle.qs_bytes.specs.Payloads.{max_payload}
use Rattle.qs_nbd_wire.specs.Requests.{request_magic, IsHead, head_of, disc, is_too_long, has_body}
use Rattle.qs_nbd_transmission.specs.Heads.{IsHeadFront, ask_of, has_data, is_write, kind_of}
use Rattle.qs_bytes.specs.declared.ask.Ask.{Ask}
use Rattle.qs_bytes.specs.declared.ask.Kind.{Kind}
use Rattle.qs_bytes.specs.declared.ask.Kind.TheVariants.{Read, Zero, Trim, Flush, Unknown}
use Rattle.qs_nbd_transmission.specs.Phases.{Phase, InHead, Wants, Fills, Skips, Over, Stuck, Reaches, HeadTells, KeptTell, PassedTell, behind_head}
use Rattle.qs_nbd_transmission.specs.Laws.{AsksRoom, JoinsPieces, ReadsOnce, WantsLess}
use Rattle.qs_nbd_wire.proofs.Widths.{number32-append}
use Rattle.qs_nbd_wire.proofs.Requests.{length-head_bytes, magic-head_bytes}

pub behind_wants : (h : RequestHead) → has_body h ≡ true → Wants h ≡ behind_head h
behind_wants h e = sym (ap (λ (b : Bool). if b then Wants h else InHead []) e)

pub behind_none : (h : RequestHead) → has_body h ≡ false → InHead [] ≡ behind_head h
behind_none h e = sym (ap (λ (b : Bool). if b then Wants h else InHead []) e)

-- the pieces of a passed body, one after the other
passed_on : (h : RequestHead) (left middle first second : ℕ) (told : Option WireEvent) (new : Phase) → middle + first ≡ left → PassedTell h middle second told new → PassedTell h left (first + second) told new
passed_on h left middle first second None (Skips same fewer) e r = (r.0, omega (arith, r.1), r.2)
passed_on h left middle first second (Some (event.Body (Drop size))) new e r = (r.0, omega (arith, r.1), r.2)
passed_on h left middle first second None (InHead held) e r = absurd r
passed_on h left middle first second None (Wants g) e r = absurd r
passed_on h left middle first second None (Fills g got) e r = absurd r
passed_on h left middle first second None Over e r = absurd r
passed_on h left middle first second None (Stuck bad) e r = absurd r
passed_on h left middle first second (Some (event.Body (Keep whole))) new e r = absurd r
passed_on h left middle first second (Some (event.Head ask)) new e r = absurd r
passed_on h left middle first second (Some event.Disc) new e r = absurd r
passed_on h left middle first second (Some (event.Bad bad)) new e r = absurd r

-- The pieces of a head, of data that are kept and of data that are passed over join.
pub reaches_on : JoinsPieces
reaches_on s (InHead held) (InHead more) new a b told p q =
    subst (λ (xs : List ℕ). HeadTells s xs told new) (ap (λ xs. xs ++ b) p.0 ∙ append_assoc held a b) q
reaches_on s (Fills h got) (Fills g more) new a b told p q =
    subst (λ (xs : List ℕ). KeptTell h xs told new) (ap (λ xs. xs ++ b) p.1 ∙ append_assoc got a b)
    (subst (λ (k : RequestHead). KeptTell k (more ++ b) told new) p.0 q)
reaches_on s (Skips h left) (Skips g middle) new a b told p q =
    subst (λ (n : ℕ). PassedTell h left n told new) (sym (length-append a b))
    (passed_on h left middle (length a) (length b) told new p.1 (subst (λ (k : RequestHead). PassedTell k middle (length b) told new) p.0 q))
reaches_on s (Stuck bad) middle new a b told p q = let e = p.1 in absurd (cc)
reaches_on s old middle new a b told p q = absurd p

-- the event that 28 bytes of a head bring, or four that aren't the magic
told_at : Bool → List ℕ → WireEvent
told_at s bytes = if number32 bytes 0 == request_magic then (if is_too_long (head_of bytes) then event.Bad (TooLong (head_of bytes).size) else (if (head_of bytes).kind == disc then event.Disc else event.Head (ask_of s (head_of bytes)))) else event.Bad (BadMagic (number32 bytes 0))

-- and the phase behind it
phase_at : List ℕ → Phase
phase_at bytes = if number32 bytes 0 == request_magic then (if is_too_long (head_of bytes) then Stuck (TooLong (head_of bytes).size) else (if (head_of bytes).kind == disc then Over else behind_head (head_of bytes))) else Stuck (BadMagic (number32 bytes 0))

magic_of : (bytes : List ℕ) (h : RequestHead) → IsHead bytes h → number32 bytes 0 ≡ request_magic
magic_of bytes h is =
    sym (number32-append bytes [] (rw is.spelled (omega (arith, length-head_bytes h))))
    ∙ ap (λ xs. number32 (xs ++ []) 0) is.spelled ∙ magic-head_bytes h []

whole_of : (bytes : List ℕ) (h : RequestHead) → IsHead bytes h → length bytes ≡ 28
whole_of bytes h is = ap (λ xs. length xs) is.spelled ∙ length-head_bytes h

disc_short : (h : RequestHead) → h.kind ≡ disc → is_too_long h ≡ false
disc_short h e = ap (λ k. (k == 1) && nat_lt max_payload h.size) e

-- what a head tells is told by its bytes
tells : (s : Bool) (bytes : List ℕ) (told : WireEvent) (new : Phase) → HeadTells s bytes (Some told) new → (told ≡ told_at s bytes) × (new ≡ phase_at bytes)
unfolding told_at phase_at
tells s bytes (event.Head ask) new r =
    let m = eq-eqb (number32 bytes 0) request_magic (magic_of bytes (head_of bytes) r.head) in
    let k = ne_eqb (head_of bytes).kind disc r.not_disc in
    rw (m, r.not_long, k) (ap (λ a. event.Head a) r.asks, r.behind)
tells s bytes event.Disc new r =
    let m = eq-eqb (number32 bytes 0) request_magic (magic_of bytes (head_of bytes) r.head) in
    let k = eq-eqb (head_of bytes).kind disc r.disc in
    rw (m, disc_short (head_of bytes) r.disc, k) (refl, r.over)
tells s bytes (event.Bad (TooLong size)) new r =
    let m = eq-eqb (number32 bytes 0) request_magic (magic_of bytes (head_of bytes) r.head) in
    rw (m, r.long) (ap (λ n. event.Bad (TooLong n)) r.told, r.stuck ∙ ap (λ n. Stuck (TooLong n)) r.told)
tells s bytes (event.Bad (BadMagic found)) new r =
    let m = ne_eqb (number32 bytes 0) request_magic (λ e. r.bad (r.told ∙ e)) in
    rw m (ap (λ n. event.Bad (BadMagic n)) r.told, r.stuck ∙ ap (λ n. Stuck (BadMagic n)) r.told)
tells s bytes told new r = absurd r

-- the bytes that bring an event are a head, or four that aren't the magic
shape : (s : Bool) (bytes : List ℕ) (told : WireEvent) (new : Phase) → HeadTells s bytes (Some told) new → ((length bytes ≡ 28) × (number32 bytes 0 ≡ request_magic)) ⊎ ((length bytes ≡ 4) × (number32 bytes 0 ≢ request_magic))
shape s bytes (event.Head ask) new r = inl (whole_of bytes (head_of bytes) r.head, magic_of bytes (head_of bytes) r.head)
shape s bytes event.Disc new r = inl (whole_of bytes (head_of bytes) r.head, magic_of bytes (head_of bytes) r.head)
shape s bytes (event.Bad (TooLong size)) new r = inl (whole_of bytes (head_of bytes) r.head, magic_of bytes (head_of bytes) r.head)
shape s bytes (event.Bad (BadMagic found)) new r = inr (r.four, λ e. r.bad (r.told ∙ e))
shape s bytes told new r = absurd r

-- fronts of equal length of one list are one
pub same_front : (xs ys more rest : List ℕ) → length xs ≡ length ys → xs ++ more ≡ ys ++ rest → xs ≡ ys
same_front xs ys more rest e f = sym (take_at xs more (length xs) refl) ∙ ap (λ zs. take (length xs) zs) f ∙ take_at ys rest (length xs) (sym e)

-- the magic of one stream is one
one_magic : (xs ys more rest : List ℕ) → 4 ≤ length xs → 4 ≤ length ys → xs ++ more ≡ ys ++ rest → number32 xs 0 ≡ number32 ys 0
one_magic xs ys more rest h k e = sym (number32-append xs more h) ∙ ap (λ zs. number32 zs 0) e ∙ number32-append ys rest k

head_once : (s : Bool) (xs ys more rest : List ℕ) (told again : WireEvent) (new other : Phase) → HeadTells s xs (Some told) new → HeadTells s ys (Some again) other → xs ++ more ≡ ys ++ rest → xs ≡ ys
head_once s xs ys more rest told again new other p q e =
    elim (shape s xs told new p) [
      | inl a ↦ elim (shape s ys again other q) [
        | inl b ↦ same_front xs ys more rest (a.0 ∙ sym b.0) e
        | inr b ↦ absurd (b.1 (sym (one_magic xs ys more rest (omega (arith, a.0)) (omega (arith, b.0)) e) ∙ a.1))
      ]
      | inr a ↦ elim (shape s ys again other q) [
        | inl b ↦ absurd (a.1 (one_magic xs ys more rest (omega (arith, a.0)) (omega (arith, b.0)) e ∙ b.1))
        | inr b ↦ same_front xs ys more rest (a.0 ∙ sym b.0) e
      ]
    ]

-- a head that is whole isn't less than one
head_never : (s : Bool) (bytes more : List ℕ) (told : WireEvent) (new other : Phase) → HeadTells s bytes (Some told) new → HeadTells s (bytes ++ more) None other → ⊥
head_never s bytes more told new (InHead held) p q =
    let front = subst (λ (xs : List ℕ). IsHeadFront xs) q.0 q.1 in
    elim (shape s bytes told new p) [
      | inl a ↦ omega (arith, a.0, front.short, length-append bytes more)
      | inr a ↦ a.1 (sym (number32-append bytes more (omega (arith, a.0))) ∙ front.magic (omega (arith, a.0, length-append bytes more)))
    ]
head_never s bytes more told new other p q = q

-- data that are whole
pub kept_whole : (h : RequestHead) (bytes : List ℕ) (told : WireEvent) (new : Phase) → KeptTell h bytes (Some told) new → (length bytes ≡ h.size) × (told ≡ event.Body (Keep bytes)) × (new ≡ InHead [])
kept_whole h bytes (event.Body (Keep whole)) new r = (ap (λ xs. length xs) (sym r.0) ∙ r.1, ap (λ xs. event.Body (Keep xs)) r.0, r.2)
kept_whole h bytes told new r = absurd r

kept_never : (h : RequestHead) (bytes more : List ℕ) (told : WireEvent) (new other : Phase) → KeptTell h bytes (Some told) new → KeptTell h (bytes ++ more) None other → ⊥
kept_never h bytes more told new (Fills g got) p q =
    omega (arith, (kept_whole h bytes told new p).0, q.2, ap (λ xs. length xs) q.1, length-append bytes more)
kept_never h bytes more told new other p q = q

pub passed_whole : (h : RequestHead) (left count : ℕ) (told : WireEvent) (new : Phase) → PassedTell h left count (Some told) new → (count ≡ left) × (told ≡ event.Body (Drop h.size)) × (new ≡ InHead [])
passed_whole h left count (event.Body (Drop size)) new r = (r.1, ap (λ n. event.Body (Drop n)) r.0, r.2)
passed_whole h left count told new r = absurd r

passed_never : (h : RequestHead) (left count more : ℕ) (told : WireEvent) (new other : Phase) → PassedTell h left count (Some told) new → PassedTell h left (count + more) None other → ⊥
passed_never h left count more told new (Skips g fewer) p q = omega (arith, (passed_whole h left count told new p).0, q.1, q.2)
passed_never h left count more told new other p q = q

once : (s : Bool) → (old one other : Phase) → (first second more rest : List ℕ) → (told again : WireEvent) →
    Reaches s old first (Some told) one → Reaches s old second (Some again) other →
    first ++ more ≡ second ++ rest → (first ≡ second) × (told ≡ again) × (one ≡ other)
once s (InHead held) one other first second more rest told again p q e =
    let same : held ++ first ≡ held ++ second =
    head_once s (held ++ first) (held ++ second) more rest told again one other p q
    (append_assoc held first more ∙ ap (λ xs. held ++ xs) e ∙ sym (append_assoc held second rest)) in
    let a = tells s (held ++ first) told one p in
    let b = tells s (held ++ second) again other q in (
      append_cancel_left held first second same,
      a.0 ∙ ap (λ xs. told_at s xs) same ∙ sym b.0,
      a.1 ∙ ap (λ xs. phase_at xs) same ∙ sym b.1,
    )
once s (Fills h got) one other first second more rest told again p q e =
    let a = kept_whole h (got ++ first) told one p in
    let b = kept_whole h (got ++ second) again other q in
    let same : first ≡ second = same_front first second more rest (omega (arith, a.0, b.0, length-append got first, length-append got second)) e in
    (same, a.1 ∙ ap (λ xs. event.Body (Keep (got ++ xs))) same ∙ sym b.1, a.2 ∙ sym b.2)
once s (Skips h left) one other first second more rest told again p q e =
    let a = passed_whole h left (length first) told one p in
    let b = passed_whole h left (length second) again other q in
    (same_front first second more rest (a.0 ∙ sym b.0) e, a.1 ∙ sym b.1, a.2 ∙ sym b.2)
once s (Stuck bad) one other first second more rest told again p q e =
    (p.0 ∙ sym q.0, let f = p.1 ∙ sym q.1 in cc, p.2 ∙ sym q.2)
once s old one other first second more rest told again p q e = absurd p

never : (s : Bool) → (old one other : Phase) → (first more : List ℕ) → (told : WireEvent) →
    Reaches s old first (Some told) one → Reaches s old (first ++ more) None other → ⊥
never s (InHead held) one other first more told p q =
    head_never s (held ++ first) more told one other p (subst (λ (xs : List ℕ). HeadTells s xs None other) (sym (append_assoc held first more)) q)
never s (Fills h got) one other first more told p q =
    kept_never h (got ++ first) more told one other p (subst (λ (xs : List ℕ). KeptTell h xs None other) (sym (append_assoc got first more)) q)
never s (Skips h left) one other first more told p q =
    passed_never h left (length first) (length more) told one other p (subst (λ (n : ℕ). PassedTell h left n None other) (length-append first more) q)
never s (Stuck bad) one other first more told p q = let f = q.1 in cc
never s old one other first more told p q = p

pub reads_once : ReadsOnce
reads_once = record { same = once; none = never }

-- each byte that brings no event is one less that is wanted
pub need_falls : WantsLess
need_falls s (InHead held) (InHead more) bytes some r =
    omega (arith, ap (λ xs. length xs) r.0, length-append held bytes, r.1.short)
need_falls s (Fills h got) (Fills g more) bytes some r =
    omega (arith, ap (λ (k : RequestHead). k.size) r.0, ap (λ xs. length xs) r.1, length-append got bytes, r.2)
need_falls s (Skips h left) (Skips g fewer) bytes some r = omega (arith, r.1)
need_falls s (Stuck bad) new bytes some r = let e = r.1 in absurd (cc)
need_falls s old new bytes some r = absurd r

-- where both are no WRITE, the chosen one is none
no_write : (b : Bool) (x y : Kind) → is_write x ≡ false → is_write y ≡ false → is_write (if b then x else y) ≡ false
no_write true x y p q = p
no_write false x y p q = q

is_write-kind_of : (n : ℕ) → is_write (kind_of n) ≡ (n == 1)
is_write-kind_of n =
    elim (cases_eq n 1) [
      | inl one ↦ rw one refl
      | inr other ↦
          let e = ne_eqb n 1 other in
          rw e (no_write (n == 0) Read _ refl (no_write (n == 3) Flush _ refl (no_write (n == 4) Trim _ refl (no_write (n == 6) Zero (Unknown n) refl refl))))
    ]

pub has_data-ask_of : (s : Bool) (h : RequestHead) → has_data (ask_of s h) ≡ has_body h
has_data-ask_of s h = ap (λ b. b && nat_lt 0 h.size) (is_write-kind_of h.kind)

-- what follows the head of a request
pub asks_room : AsksRoom
asks_room = record {
  some = λ s bytes ask new is e. (
    head_of bytes,
    (
      is.behind ∙ sym (behind_wants (head_of bytes) (sym (has_data-ask_of s (head_of bytes)) ∙ ap (λ (a : Ask). has_data a) (sym is.asks) ∙ e)),
      ap (λ (a : Ask). a.length) (sym is.asks),
    ),
  );
  none = λ s bytes ask new is e.
      is.behind ∙ sym (behind_none (head_of bytes) (sym (has_data-ask_of s (head_of bytes)) ∙ ap (λ (a : Ask). has_data a) (sym is.asks) ∙ e));
}
