-- All calls of a handshake, and what they tell together of its whole stream.
use Rattle.std.specs.Prelude.{◌≡◌, ℕ, ◌+◌, ◌<◌, ◌⊎◌, Bool, List, [], ◌∷◌, ◌++◌, length, drop, replicate, All, Option, Some, None}
use Rattle.std.specs.List.{flat_map}
use Rattle.qs_bytes.specs.Numbers.{number32}
use Rattle.qs_status.specs.declared.status.SessionEnd.{SessionEnd}
use Rattle.qs_status.specs.declared.status.SessionEnd.TheVariants.{BadFlags}
use Rattle.qs_nbd_wire.specs.declared.opening.ClientFlags.{ClientFlags}
use Rattle.qs_nbd_wire.specs.Greetings.{flags_of}
use Rattle.qs_nbd_wire.specs.declared.option.OptionHead.{OptionHead}
use Rattle.qs_nbd_wire.specs.Options.{AreBytes, ClientOption, FitsOption, option_bytes, option_head_of, option_magic}
use Rattle.qs_nbd_handshake.specs.declared.event.HandEvent.{HandEvent}
use Rattle.qs_nbd_handshake.specs.declared.event.HandEvent.TheVariants as event
use Rattle.qs_nbd_handshake.specs.declared.event.Told.{Told}
use Rattle.qs_nbd_handshake.specs.Answers.{CanAnswer, IsBehind}
use Rattle.qs_nbd_handshake.specs.Phases.{Phase, InFlags, InOption, Asked, Over, Stuck, Reader, Reaches, opening_reader, option_size, wish_in}
use Rattle.qs_nbd_handshake.specs.Wishes.{option_fault, want_of, wish_of}

-- Took: a feed took these bytes, with what it told at their end. Answered: this was told for an answer.
pub data HandshakeCall : Type 0 where
  Took : (bytes : List ℕ) (told : Option HandEvent) → HandshakeCall
  Answered : (t : Told) → HandshakeCall

-- a call leads from one handshake to another
abbrev pub CallLeads : Reader → HandshakeCall → Reader → Type 0
CallLeads old (Took bytes told) new = Reaches old bytes told new
CallLeads old (Answered t) new = CanAnswer old.phase t × IsBehind old.terms old.phase t new

-- the calls lead, one after the other, from one handshake to another
abbrev pub CallsLead : Reader → List HandshakeCall → Reader → Type 0
CallsLead old [] new = new ≡ old
CallsLead old (call ∷ calls) new = (middle : Reader) × (CallLeads old call middle × CallsLead middle calls new)

-- the bytes that a call took
abbrev pub taken_by : HandshakeCall → List ℕ
taken_by (Took bytes told) = bytes
taken_by (Answered t) = []

-- what a call told
abbrev pub told_by : HandshakeCall → List HandEvent
told_by (Took bytes None) = []
told_by (Took bytes (Some event)) = event ∷ []
told_by (Answered t) = []

-- a whole option that is answered: a head that breaks no rule, and as many data as it announces
pub record IsOption (fixed : Bool) (bytes : List ℕ) : Type 0 where
  pub whole : length bytes ≡ option_size fixed bytes
  pub served : option_fault fixed (option_head_of bytes) ≡ None

-- a head that breaks a rule
pub record IsRefused (fixed : Bool) (bytes : List ℕ) (bad : SessionEnd) : Type 0 where
  pub whole : length bytes ≡ 16
  pub fault : option_fault fixed (option_head_of bytes) ≡ Some bad

-- what is told of an option
abbrev pub told_of : List ℕ → List HandEvent
told_of bytes = event.Wanted (want_of (wish_in bytes)) ∷ []

-- the bytes of an option are themselves
abbrev pub sent_bytes : List ℕ → List ℕ
sent_bytes bytes = bytes

-- What was taken behind the last whole option, and what was told of it: less than an option, nothing,
-- or a head that is refused, which is told once or more often.
abbrev pub EndsWith : Bool → Phase → List ℕ → List HandEvent → Type 0
EndsWith fixed (InFlags held) rest last = ⊥
EndsWith fixed (InOption held) rest last = (rest ≡ held) × (length held < option_size fixed held) × (last ≡ [])
EndsWith fixed (Asked w) rest last = (rest ≡ []) × (last ≡ [])
EndsWith fixed (Over how) rest last = (rest ≡ []) × (last ≡ [])
EndsWith fixed (Stuck bad) rest last = IsRefused fixed rest bad
    × ((again : ℕ) × (last ≡ replicate (again + 1) (event.Bad bad)))

-- The bytes that were taken are the client's flags, whole options and a rest; what was told is told of
-- the flags, of these options, each once and in order, and of the rest.
pub record TellsOptions (new : Reader) (bytes : List ℕ) (events : List HandEvent) : Type 0 where
  pub flags : List ℕ
  pub known : ClientFlags
  pub options : List (List ℕ)
  pub rest : List ℕ
  pub last : List HandEvent
  pub four : length flags ≡ 4
  pub read : flags_of (number32 flags 0) ≡ Some known
  pub fixed : new.terms.fixed ≡ known.fixed
  pub each : All (IsOption known.fixed) options
  pub taken : bytes ≡ flags ++ (flat_map sent_bytes options ++ rest)
  pub told : events ≡ event.Flags (number32 flags 0) ∷ (flat_map told_of options ++ last)
  pub leaves : EndsWith known.fixed new.phase rest last

-- The bytes that were taken are flags of which one is unknown, and this is told once or more often.
pub record RefusesFlags (new : Reader) (bytes : List ℕ) (events : List HandEvent) : Type 0 where
  pub four : length bytes ≡ 4
  pub unknown : flags_of (number32 bytes 0) ≡ None
  pub stuck : new.phase ≡ Stuck (BadFlags (number32 bytes 0))
  pub told : (again : ℕ) × (events ≡ replicate (again + 1) (event.Bad (BadFlags (number32 bytes 0))))

-- The bytes that were taken are less than the client's flags, and nothing is told of them.
pub record AwaitsFlags (new : Reader) (bytes : List ℕ) (events : List HandEvent) : Type 0 where
  pub short : length bytes < 4
  pub awaits : new.phase ≡ InFlags bytes
  pub none : events ≡ []

abbrev pub TellsEvents : Reader → List ℕ → List HandEvent → Type 0
TellsEvents new bytes events = AwaitsFlags new bytes events
    ⊎ (RefusesFlags new bytes events ⊎ TellsOptions new bytes events)

-- however a stream is cut, its flags and options are told, and nothing else
abbrev pub ReadsSessions : Type 0
ReadsSessions =
    (calls : List HandshakeCall) → (new : Reader) → CallsLead opening_reader calls new →
    TellsEvents new (flat_map taken_by calls) (flat_map told_by calls)

-- the head of an option's spelling
abbrev pub head_for : ClientOption → OptionHead
head_for o = record { magic = option_magic; number = o.number; length = length o.content }

-- Whole options are the spellings of options whose head breaks no rule, and no others; what is asked by
-- one is asked by its number and data.
pub record SpellsServed : Type 0 where
  pub spelled : (fixed : Bool) → (bytes : List ℕ) → AreBytes bytes → IsOption fixed bytes →
      let o : ClientOption = record { number = (option_head_of bytes).number; content = drop 16 bytes } in
      (bytes ≡ option_bytes o) × (wish_in bytes ≡ wish_of o.number o.content)
  pub served : (fixed : Bool) → (o : ClientOption) → FitsOption o → option_fault fixed (head_for o) ≡ None →
      IsOption fixed (option_bytes o) × (wish_in (option_bytes o) ≡ wish_of o.number o.content)

-- A stream has one reading: two handshakes that took the same bytes, the client's flags among them, read the
-- same flags and the same options from them, and have the same rest.
abbrev pub ReadsOneWay : Type 0
ReadsOneWay =
    (new other : Reader) → (bytes : List ℕ) → (events further : List HandEvent) →
    (p : TellsOptions new bytes events) → (q : TellsOptions other bytes further) →
    (p.flags ≡ q.flags) × (p.options ≡ q.options) × (p.rest ≡ q.rest)
