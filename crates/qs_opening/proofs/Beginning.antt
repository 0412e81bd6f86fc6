-- The greeting, and behind it the client's flags and options.
use Rattle.std.proofs.Common.{◌≡◌, ℕ, inl, inr, Bool, List, [], refl, ap, subst, append-nil}
use Rattle.std.specs.Prelude.{Option, None, Some, Result, Ok, Err, IsErrAnd}
use Rattle.qs_status.specs.declared.status.Status.{Status}
use Rattle.qs_outside.specs.Blocks.{Seen}
use Rattle.qs_nbd_wire.specs.Greetings.{greeting_bytes}
use Rattle.qs_nbd_handshake.specs.declared.stage.Terms.{Terms}
use Rattle.qs_nbd_handshake.specs.Phases.{Reader}
use Rattle.qs_stream.specs.Buffers.{Buffers}
use Rattle.qs_stream.specs.Flows.{Flow, Moved, Puts, Side}
use Rattle.qs_stream.proofs.Moves.{moved_on}
use Rattle.qs_world.specs.Values.{WorldValue}
use Rattle.qs_opening.specs.declared.turn.Opened.{Opened}
use Rattle.qs_opening.specs.declared.turn.Opened.TheVariants.{Ends}
use Rattle.qs_opening.specs.Openings.{Converses, Flags, LacksFlags, OpensSession, ReadsFlags, terms_of}

-- the greeting was put
pub greeted_by : (bytes : List ℕ) (input o : Side) (s : Buffers) (o' : Side) (s' : Buffers) → bytes ≡ greeting_bytes → Puts bytes o s o' s' →
    Moved [] greeting_bytes (record { input = input; output = o; stream = s }) (record { input = input; output = o'; stream = s' })
greeted_by bytes input o s o' s' is puts =
    subst (λ (xs : List ℕ). Moved [] xs (record { input = input; output = o; stream = s }) (record { input = input; output = o'; stream = s' })) is (puts.moved input)

-- the flags that came
abbrev pub Knows : Reader → Flow → Flow → Type 0
Knows reader before after = (taken : List ℕ) × (Moved taken [] before after × Flags {E = Unit {0}} taken (Ok None) reader after)

pub knows : {E : Type 0} (before : Flow) (told : Option Status) (reader : Reader) (after : Flow) → told ≡ None → ReadsFlags {E = E} before (Ok told) reader after → Knows reader before after
knows {E} before told reader after is reads =
    (reads.taken, (reads.moved, subst (λ (t : Option Status). Flags {E = E} reads.taken (Ok t) reader after) is reads.flags))

module _ {D : Type 0} (seen : D → Seen) (session : ℕ) (writable : Bool) (budget : ℕ) (before greeted : Flow) (old : WorldValue D) (reader : Reader) (after : Flow)
    (greets : Moved [] greeting_bytes before greeted) where
  -- the flags behind the greeting
  behind : (taken : List ℕ) → Moved taken [] greeted after → Moved taken greeting_bytes before after
  behind taken moved =
      subst (λ (bytes : List ℕ). Moved taken bytes before after) (append-nil greeting_bytes) (moved_on before greeted after [] greeting_bytes taken [] greets moved)

  -- no flags came
  pub opens_without : {E F : Type 0} (told : Option Status) (status : Status) → told ≡ Some status → ReadsFlags {E = F} greeted (Ok told) reader after →
      OpensSession {E = E} seen session writable budget before old (Ok (Ends status)) after old
  opens_without {E} {F} told status is reads =
      let lacks : LacksFlags {E = Unit {0}} reads.taken (Ok status) after = subst (λ (t : Option Status). Flags {E = F} reads.taken (Ok t) reader after) is reads.flags in
      inr (inl (record { taken = reads.taken; moved = behind reads.taken reads.moved; fruitless = (status, (refl, lacks)); same = refl }))

  -- the stream failed
  pub opens_fault : {E F : Type 0} (e : F) (result : Result Opened E) (P : E → Type 0) → IsErrAnd result P → ReadsFlags {E = F} greeted (Err e) reader after →
      OpensSession {E = E} seen session writable budget before old result after old
  opens_fault e (Ok opened) P is reads = absurd is
  opens_fault e (Err f) P is reads = inr (inl (record { taken = reads.taken; moved = behind reads.taken reads.moved; fruitless = reads.flags; same = refl }))

  -- options came
  pub opens_on : {E : Type 0} (result : Result Opened E) (last : Flow) (new : WorldValue D) → Knows reader greeted after →
      Converses {E = E} seen session writable budget reader.terms after old result last new → OpensSession {E = E} seen session writable budget before old result last new
  opens_on {E} result last new known converses =
      let agreed : reader.terms ≡ terms_of known.1.1.0 = ap (λ (r : Reader). r.terms) known.1.1.1.2 in
      let c : Converses {E = E} seen session writable budget (terms_of known.1.1.0) after old result last new =
      subst (λ (t : Terms). Converses {E = E} seen session writable budget t after old result last new) agreed converses in
      inl (record {
        flags = known.0;
        known = known.1.1.0;
        four = known.1.1.1.0;
        read = known.1.1.1.1;
        options = c.options;
        stay = c.stay;
        rest = c.rest;
        given = c.given;
        moved = moved_on before after last known.0 greeting_bytes _ _ (behind known.0 known.1.0) c.moved;
        finishes = c.finishes;
      })
