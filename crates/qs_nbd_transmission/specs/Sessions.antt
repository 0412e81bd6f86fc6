-- All calls of a reader in one session, and what they tell together.
use Rattle.std.specs.Prelude.{◌≡◌, ◌≢◌, ℕ, ◌+◌, ◌<◌, Bool, true, false, List, [], ◌∷◌, ◌++◌, length, replicate, All, Option, Some, None}
use Rattle.std.specs.List.{flat_map}
use Rattle.qs_nbd_wire.specs.declared.request.RequestHead.{RequestHead}
use Rattle.qs_nbd_transmission.specs.declared.event.Room.{Room}
use Rattle.qs_nbd_transmission.specs.declared.event.Room.TheVariants.{Keep, Drop}
use Rattle.qs_nbd_transmission.specs.declared.event.WireEvent.{WireEvent}
use Rattle.qs_nbd_transmission.specs.declared.event.WireEvent.TheVariants as event
use Rattle.qs_nbd_wire.specs.Requests.{FitsHead, head_bytes, disc, is_too_long, has_body, Message, IsMessage, spelling}
use Rattle.qs_nbd_transmission.specs.Heads.{IsHeadFront, ask_of}
use Rattle.qs_nbd_transmission.specs.Phases.{Phase, InHead, Wants, Fills, Skips, Over, Stuck, CanGive, phase_with_room, Reaches, HeadTells}

-- Took: a feed took these bytes, with what it told at their end. Gave: room was given.
pub data ReaderCall : Type 0 where
  Took : (bytes : List ℕ) (told : Option WireEvent) → ReaderCall
  Gave : (room : Room) → ReaderCall

-- a call leads from one phase to another
abbrev pub CallLeads : Bool → Phase → ReaderCall → Phase → Type 0
CallLeads structured old (Took bytes told) new = Reaches structured old bytes told new
CallLeads structured old (Gave room) new = CanGive old room × (new ≡ phase_with_room old room)

-- the calls lead, one after the other, from one phase to another
abbrev pub CallsLead : Bool → Phase → List ReaderCall → Phase → Type 0
CallsLead structured old [] new = new ≡ old
CallsLead structured old (call ∷ calls) new = (middle : Phase)
    × (CallLeads structured old call middle × CallsLead structured middle calls new)

-- the bytes that a call took
abbrev pub taken_by : ReaderCall → List ℕ
taken_by (Took bytes told) = bytes
taken_by (Gave room) = []

-- what a call told
abbrev pub told_by : ReaderCall → List WireEvent
told_by (Took bytes None) = []
told_by (Took bytes (Some event)) = event ∷ []
told_by (Gave room) = []

-- a message, and the room in which its data were told
pub record Heard : Type 0 where
  pub message : Message
  pub room : Option Room

-- there is room where there are data: a buffer that holds them, or their number
abbrev pub HoldsBody : Message → Option Room → Type 0
HoldsBody m None = has_body m.head ≡ false
HoldsBody m (Some (Keep buffer)) = (has_body m.head ≡ true) × (buffer ≡ m.body)
HoldsBody m (Some (Drop count)) = (has_body m.head ≡ true) × (count ≡ m.head.size)

-- a message that was told whole
pub record IsHeard (x : Heard) : Type 0 where
  pub message : IsMessage x.message
  pub room : HoldsBody x.message x.room

-- what is told of data
abbrev pub body_events : Option Room → List WireEvent
body_events None = []
body_events (Some room) = event.Body room ∷ []

-- what is told of a message
abbrev pub events_of : Bool → Heard → List WireEvent
events_of structured x = event.Head (ask_of structured x.message.head) ∷ body_events x.room

-- the head of a WRITE whose data aren't whole
pub record IsAwaiting (h : RequestHead) : Type 0 where
  pub fits : FitsHead h
  pub not_disc : h.kind ≢ disc
  pub not_long : is_too_long h ≡ false
  pub body : has_body h ≡ true

-- What was taken behind the last whole message, and what was told of it: less than a head; a WRITE's
-- head and less than its data; a DISC; or what is refused, which is told once or more often.
abbrev pub EndsWith : Bool → Phase → List ℕ → List WireEvent → Type 0
EndsWith structured (InHead held) rest last = (rest ≡ held) × IsHeadFront held × (last ≡ [])
EndsWith structured (Wants h) rest last = IsAwaiting h × (rest ≡ head_bytes h)
    × (last ≡ event.Head (ask_of structured h) ∷ [])
EndsWith structured (Fills h got) rest last =
    IsAwaiting h × (rest ≡ head_bytes h ++ got) × (length got < h.size) × (last ≡ event.Head (ask_of structured h) ∷ [])
EndsWith structured (Skips h left) rest last =
    IsAwaiting h × ((got : List ℕ) × ((rest ≡ head_bytes h ++ got) × (length got + left ≡ h.size))) × (0 < left)
    × (last ≡ event.Head (ask_of structured h) ∷ [])
EndsWith structured Over rest last = HeadTells structured rest (Some event.Disc) Over × (last ≡ event.Disc ∷ [])
EndsWith structured (Stuck bad) rest last =
    HeadTells structured rest (Some (event.Bad bad)) (Stuck bad)
    × ((again : ℕ) × (last ≡ replicate (again + 1) (event.Bad bad)))

-- The bytes that were taken are the spellings of whole messages and a rest; what was told is told of
-- these messages, each once and in order, and of the rest.
pub record TellsEvents (structured : Bool) (phase : Phase) (bytes : List ℕ) (events : List WireEvent) : Type 0 where
  pub heard : List Heard
  pub rest : List ℕ
  pub last : List WireEvent
  pub each : All IsHeard heard
  pub taken : bytes ≡ flat_map (λ x. spelling x.message) heard ++ rest
  pub told : events ≡ flat_map (events_of structured) heard ++ last
  pub leaves : EndsWith structured phase rest last

-- however a stream is cut, its messages are told, and nothing else
abbrev pub ReadsSessions : Type 0
ReadsSessions =
    (structured : Bool) → (calls : List ReaderCall) → (new : Phase) → CallsLead structured (InHead []) calls new →
    TellsEvents structured new (flat_map taken_by calls) (flat_map told_by calls)
