-- What a reader of requests has taken of the next one, and what each call makes of it.
use Rattle.std.specs.Prelude.{◌≡◌, ◌≢◌, ℕ, ◌+◌, ◌-◌, ◌<◌, Bool, true, false, if◌then◌else◌, List, [], ◌∷◌, ◌++◌, length, Option, Some, None}
use Rattle.qs_bytes.specs.Numbers.{number32}
use Rattle.qs_bytes.specs.declared.ask.Ask.{Ask}
use Rattle.qs_status.specs.declared.status.SessionEnd.{SessionEnd}
use Rattle.qs_status.specs.declared.status.SessionEnd.TheVariants.{Done, Truncated, BadMagic, TooLong}
use Rattle.qs_nbd_wire.specs.declared.request.RequestHead.{RequestHead}
use Rattle.qs_nbd_transmission.specs.declared.event.Room.{Room}
use Rattle.qs_nbd_transmission.specs.declared.event.Room.TheVariants.{Keep, Drop}
use Rattle.qs_nbd_transmission.specs.declared.event.WireEvent.{WireEvent}
use Rattle.qs_nbd_transmission.specs.declared.event.WireEvent.TheVariants as event
use Rattle.qs_nbd_wire.specs.Requests.{request_magic, head_of, IsHead, disc, is_too_long, has_body}
use Rattle.qs_nbd_transmission.specs.Heads.{ask_of, IsHeadFront}

-- InHead: these bytes of the next head were taken. Wants: the head of a WRITE came, and its data have
-- no room yet. Fills: so much of the data is in the buffer. Skips: so many bytes of the data are
-- still to be passed over. Over: a DISC came. Stuck: a refusal came.
pub data Phase : Type 0 where
  InHead : (held : List ℕ) → Phase
  Wants : (h : RequestHead) → Phase
  Fills : (h : RequestHead) (got : List ℕ) → Phase
  Skips : (h : RequestHead) (left : ℕ) → Phase
  Over : Phase
  Stuck : (bad : SessionEnd) → Phase

-- a reader, with what its session agreed on
pub record Reader : Type 0 where
  pub structured : Bool
  pub phase : Phase

-- bytes are awaited, or all that follows is refused
abbrev pub CanFeed : Phase → Type 0
CanFeed (Wants h) = ⊥
CanFeed Over = ⊥
CanFeed other = Unit {0}

-- how many bytes a room is for
abbrev pub room_size : Room → ℕ
room_size (Keep buffer) = length buffer
room_size (Drop count) = count

-- room for the data of a WRITE is awaited, and this has their length
abbrev pub CanGive : Phase → Room → Type 0
CanGive (Wants h) room = room_size room ≡ h.size
CanGive other room = ⊥

-- the phase once the room is given
abbrev pub phase_with_room : Phase → Room → Phase
phase_with_room (Wants h) (Keep buffer) = Fills h []
phase_with_room (Wants h) (Drop count) = Skips h h.size
phase_with_room other room = other

-- the phase behind a head that is served
abbrev pub behind_head : RequestHead → Phase
behind_head h = if has_body h then Wants h else InHead []

-- These 28 bytes are a head that is served, and the phase behind it is `new`.
pub record IsServed (structured : Bool) (bytes : List ℕ) (ask : Ask) (new : Phase) : Type 0 where
  pub head : IsHead bytes (head_of bytes)
  pub not_disc : (head_of bytes).kind ≢ disc
  pub not_long : is_too_long (head_of bytes) ≡ false
  pub asks : ask ≡ ask_of structured (head_of bytes)
  pub behind : new ≡ behind_head (head_of bytes)

-- These 28 bytes are a head by which the client leaves.
pub record IsLeaving (bytes : List ℕ) (new : Phase) : Type 0 where
  pub head : IsHead bytes (head_of bytes)
  pub disc : (head_of bytes).kind ≡ disc
  pub over : new ≡ Over

-- These 28 bytes are the head of a WRITE of so many bytes, which are too many.
pub record IsTooLong (bytes : List ℕ) (size : ℕ) (new : Phase) : Type 0 where
  pub head : IsHead bytes (head_of bytes)
  pub long : is_too_long (head_of bytes) ≡ true
  pub told : size ≡ (head_of bytes).size
  pub stuck : new ≡ Stuck (TooLong size)

-- These four bytes spell this number, which no head begins with.
pub record IsBadMagic (bytes : List ℕ) (found : ℕ) (new : Phase) : Type 0 where
  pub four : length bytes ≡ 4
  pub told : found ≡ number32 bytes 0
  pub bad : found ≢ request_magic
  pub stuck : new ≡ Stuck (BadMagic found)

-- What stands at the end of these bytes of a head, and the phase there.
abbrev pub HeadTells : Bool → List ℕ → Option WireEvent → Phase → Type 0
HeadTells structured bytes None (InHead held) = (held ≡ bytes) × IsHeadFront held
HeadTells structured bytes (Some (event.Head ask)) new = IsServed structured bytes ask new
HeadTells structured bytes (Some event.Disc) new = IsLeaving bytes new
HeadTells structured bytes (Some (event.Bad (TooLong size))) new = IsTooLong bytes size new
HeadTells structured bytes (Some (event.Bad (BadMagic found))) new = IsBadMagic bytes found new
HeadTells structured bytes told new = ⊥

-- What stands at the end of these data of a WRITE that are kept, and the phase there.
abbrev pub KeptTell : RequestHead → List ℕ → Option WireEvent → Phase → Type 0
KeptTell h bytes None (Fills same got) = (same ≡ h) × (got ≡ bytes) × (length got < h.size)
KeptTell h bytes (Some (event.Body (Keep whole))) new = (whole ≡ bytes) × (length whole ≡ h.size) × (new ≡ InHead [])
KeptTell h bytes told new = ⊥

-- What stands behind so many bytes of the data of a WRITE of which `left` are to be passed over.
abbrev pub PassedTell : RequestHead → ℕ → ℕ → Option WireEvent → Phase → Type 0
PassedTell h left count None (Skips same fewer) = (same ≡ h) × (fewer + count ≡ left) × (0 < fewer)
PassedTell h left count (Some (event.Body (Drop size))) new = (size ≡ h.size) × (count ≡ left) × (new ≡ InHead [])
PassedTell h left count told new = ⊥

-- A refusal stays: nothing is taken, and it is told again.
abbrev pub StaysStuck : SessionEnd → List ℕ → Option WireEvent → Phase → Type 0
StaysStuck bad bytes told new = (bytes ≡ []) × (told ≡ Some (event.Bad bad)) × (new ≡ Stuck bad)

-- From the phase `old`, these bytes, with this event at their end and none before it, lead to `new`.
-- Without an event, they are less than what leads to one.
abbrev pub Reaches : Bool → Phase → List ℕ → Option WireEvent → Phase → Type 0
Reaches structured (InHead held) bytes told new = HeadTells structured (held ++ bytes) told new
Reaches structured (Wants h) bytes told new = ⊥
Reaches structured (Fills h got) bytes told new = KeptTell h (got ++ bytes) told new
Reaches structured (Skips h left) bytes told new = PassedTell h left (length bytes) told new
Reaches structured Over bytes told new = ⊥
Reaches structured (Stuck bad) bytes told new = StaysStuck bad bytes told new

-- how the session ended, where the input ends here
abbrev pub end_at : Phase → SessionEnd
end_at (InHead []) = Done
end_at (InHead (byte ∷ held)) = Truncated
end_at (Wants h) = Truncated
end_at (Fills h got) = Truncated
end_at (Skips h left) = Truncated
end_at Over = Done
end_at (Stuck bad) = bad

-- a refusal came
abbrev pub is_stuck : Phase → Bool
is_stuck (Stuck bad) = true
is_stuck other = false

-- how many bytes are still wanted until the next event, at most
abbrev pub need : Phase → ℕ
need (InHead held) = 28 - length held
need (Fills h got) = h.size - length got
need (Skips h left) = left
need other = 0
