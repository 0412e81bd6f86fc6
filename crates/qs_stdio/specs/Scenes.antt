-- What is seen of a session from outside, and how it ends.
use Rattle.std.specs.Prelude.{◌≡◌, ◌≢◌, ℕ, ◌<◌, ◌⊎◌, Bool, true, false, List, [], ◌∷◌, ◌++◌, length, Option}
use Rattle.qs_bytes.specs.Numbers.{number32}
use Rattle.qs_status.specs.declared.status.SessionEnd.TheVariants as end
use Rattle.qs_status.specs.declared.status.Status.{Status}
use Rattle.qs_status.specs.declared.status.Status.TheVariants.{Done, Ended, Memory}
use Rattle.qs_nbd_wire.specs.Requests.{request_magic, head_of, IsHead, disc, is_too_long, has_body, Message, IsMessage, spelling}
use Rattle.qs_nbd_transmission.specs.Heads.{IsHeadFront}
use Rattle.qs_outside.specs.Blocks.{Seen}
use Rattle.qs_stream.specs.Buffers.{Buffers}
use Rattle.qs_stream.specs.Flows.{Flow, flow as stream_flow, IsUsedUp, Moved}
use Rattle.qs_part.specs.declared.event.Event.TheVariants.{Ask as AskEvent}
use Rattle.qs_part.specs.declared.event.Outcome.TheVariants.{Made}
use Rattle.qs_calls.specs.Calls.{Happened}
use Rattle.qs_world.specs.Values.{WorldValue, disks_of}
use Rattle.qs_stdio.specs.Service.{Exchange, asked_in, reply}
use Rattle.qs_stdio.specs.Calls.{Does}

-- a stream with its two sides, and the core
pub record Scene (D : Type 0) : Type 0 where
  pub flow : Flow
  pub world : WorldValue D

-- by the meanings of the source and of the sink
abbrev pub scene : {I O D : Type 0} → (I → Option (List ℕ)) → (I → ℕ) → (O → Option (List ℕ)) → (O → ℕ) → I → O →
    Buffers → WorldValue D → Scene D
scene left read_faults sent write_faults input output stream world = record {
  flow = stream_flow left read_faults sent write_faults input output stream;
  world = world;
}

-- what its disks mean
abbrev pub disks_in : {D : Type 0} → (D → Seen) → Scene D → List Seen
disks_in seen s = disks_of seen s.world

-- these bytes are the head of a DISC
abbrev pub IsLeave : List ℕ → Type 0
IsLeave bytes = IsHead bytes (head_of bytes) × ((head_of bytes).kind ≡ disc)

-- the head of a WRITE that is served, and less than its data
pub record IsCutWrite (bytes : List ℕ) : Type 0 where
  pub front : List ℕ
  pub got : List ℕ
  pub whole : bytes ≡ front ++ got
  pub head : IsHead front (head_of front)
  pub wants : has_body (head_of front) ≡ true
  pub not_long : is_too_long (head_of front) ≡ false
  pub short : length got < (head_of front).size

-- less than a message: less than a head, or than a WRITE's data
abbrev pub IsMessageFront : List ℕ → Type 0
IsMessageFront bytes = IsHeadFront bytes ⊎ IsCutWrite bytes

-- some bytes of a message, and not all
abbrev pub IsCutMessage : List ℕ → Type 0
IsCutMessage bytes = (IsHeadFront bytes × (0 < length bytes)) ⊎ IsCutWrite bytes

-- a whole request
abbrev pub IsWholeMessage : List ℕ → Type 0
IsWholeMessage bytes = (m : Message) × (IsMessage m × (bytes ≡ spelling m))

-- How a session may end before a request was answered, where these bytes of it were taken. For want of memory it may
-- end behind a request.
abbrev pub Ending : Status → Flow → List ℕ → Type 0
Ending Memory after rest = IsWholeMessage rest
Ending Done after rest = IsLeave rest ⊎ ((rest ≡ []) × IsUsedUp after)
Ending (Ended end.Truncated) after rest = IsCutMessage rest × IsUsedUp after
Ending (Ended (end.BadMagic found)) after rest = (length rest ≡ 4) × (found ≡ number32 rest 0) × (found ≢ request_magic)
Ending (Ended (end.TooLong size)) after rest =
    IsHead rest (head_of rest) × (is_too_long (head_of rest) ≡ true) × (size ≡ (head_of rest).size)
Ending other after rest = ⊥

-- one request was read and answered
pub record Exchanges {D : Type 0} (seen : D → Seen) (session : ℕ) (writable structured : Bool) (before : Scene D)
    (x : Exchange) (after : Scene D) : Type 0 where
  pub message : IsMessage x.message
  pub mode : x.structured ≡ structured
  pub moved : Moved (spelling x.message) (reply x) before.flow after.flow
  pub does : Does seen session writable (asked_in x) x.message.body before.world x.verdict after.world
  pub calls_are : x.calls ≡ Happened (AskEvent session (asked_in x) does.body) (Made does.exchanged.number)
      ∷ does.exchanged.steps
  pub left_is : x.left ≡ disks_in seen after

-- No request was answered; of the bytes that were taken this is so.
pub record Stops {D : Type 0} (before after : Scene D) (P : List ℕ → Type 0) : Type 0 where
  pub rest : List ℕ
  pub moved : Moved rest [] before.flow after.flow
  pub world : after.world ≡ before.world
  pub ends : P rest
