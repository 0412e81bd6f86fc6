-- One turn of a session: a request, and a WRITE's data.
use Rattle.std.specs.Prelude.{◌≡◌, ◌≢◌, ℕ, ◌<◌, Bool, List, [], length, Option, None, Some, Result, Ok, Err}
use Rattle.qs_bytes.specs.declared.ask.Ask.{Ask}
use Rattle.qs_bytes.specs.declared.ask.Verdict.{Verdict}
use Rattle.qs_status.specs.declared.status.SessionEnd.{SessionEnd}
use Rattle.qs_status.specs.declared.status.SessionEnd.TheVariants as end
use Rattle.qs_status.specs.declared.status.Status.{Status}
use Rattle.qs_status.specs.declared.status.Status.TheVariants.{Done, Ended, Memory}
use Rattle.qs_nbd_wire.specs.declared.request.RequestHead.{RequestHead}
use Rattle.qs_nbd_transmission.specs.declared.event.Room.{Room}
use Rattle.qs_nbd_transmission.specs.declared.event.Room.TheVariants.{Keep, Drop}
use Rattle.qs_nbd_transmission.specs.Phases.{Phase, Reader, InHead, Wants, Fills, Skips, IsServed}
use Rattle.qs_nbd_transmission.specs.Replies.{reply_of}
use Rattle.qs_stream.specs.declared.state.State.TheVariants.{Open}
use Rattle.qs_stream.specs.Flows.{Flow, IsUsedUp, Moved, Tells}
use Rattle.qs_stdio.specs.declared.session.Came.{Came}
use Rattle.qs_stdio.specs.declared.session.Came.TheVariants as came
use Rattle.qs_stdio.specs.declared.serve.Progress.{Progress}
use Rattle.qs_stdio.specs.declared.serve.Progress.TheVariants as progress
use Rattle.qs_outside.specs.Blocks.{Seen}
use Rattle.qs_stdio.specs.Service.{Exchange}
use Rattle.qs_stream.specs.Buffers.{Buffers}
use Rattle.qs_stream.specs.Flows.{Side}
use Rattle.qs_world.specs.Values.{WorldValue}
use Rattle.qs_stdio.specs.Calls.{Answers, Does}
use Rattle.qs_stdio.specs.Scenes.{Scene, IsMessageFront, Ending, Exchanges, Stops}

-- the status of a session that ended so
abbrev pub status_at : SessionEnd → Status
status_at end.Done = Done
status_at other = Ended other

-- a buffer of the data's length, or their number
abbrev pub HasRoom : ℕ → Room → Type 0
HasRoom size (Keep buffer) = length buffer ≡ size
HasRoom size (Drop count) = count ≡ size

-- a request came, or the session ended; where the stream failed, less than a message came
abbrev pub Comes : {E : Type 0} → Bool → List ℕ → Result Came E → Reader → Flow → Type 0
Comes structured taken (Ok (came.Asked asked)) new after = IsServed structured taken asked new.phase
    × (new.structured ≡ structured)
Comes structured taken (Ok (came.Ends status)) new after = Ending status after taken
Comes structured taken (Err e) new after = IsMessageFront taken

-- the next request was sought
pub record Asking {E : Type 0} (structured : Bool) (before : Flow) (result : Result Came E) (new : Reader)
    (after : Flow) : Type 0 where
  pub taken : List ℕ
  pub moved : Moved taken [] before after
  pub tells : Tells result after.stream.state
  pub comes : Comes structured taken result new after

-- data are read, or passed over, and none has come yet
abbrev pub IsFilling : Phase → Type 0
IsFilling (Fills h []) = 0 < h.size
IsFilling (Skips h left) = (left ≡ h.size) × (0 < left)
IsFilling other = ⊥

-- how many bytes of data are awaited
abbrev pub awaited : Phase → ℕ
awaited (Fills h got) = h.size
awaited (Skips h left) = h.size
awaited other = 0

-- the bytes are the data, and stand in the room that keeps them
abbrev pub IsData : List ℕ → ℕ → Room → Type 0
IsData taken size (Keep whole) = (whole ≡ taken) × (length taken ≡ size)
IsData taken size (Drop count) = (count ≡ size) × (length taken ≡ size)

-- the data came, or the input ended before their end, or the stream failed
abbrev pub Brings : {E : Type 0} → Reader → List ℕ → Result (Option Room) E → Reader → Flow → Type 0
Brings old taken (Ok (Some room)) new after = IsData taken (awaited old.phase) room
    × (new ≡ record { structured = old.structured; phase = InHead [] })
Brings old taken (Ok None) new after = (length taken < awaited old.phase) × IsUsedUp after
Brings old taken (Err e) new after = length taken < awaited old.phase

-- the data, where memory was given for them
abbrev pub body_in : Room → Option (List ℕ)
body_in (Keep whole) = Some whole
body_in (Drop count) = None

-- the data of a WRITE were sought
pub record Bringing {E : Type 0} (old : Reader) (before : Flow) (result : Result (Option Room) E) (new : Reader)
    (after : Flow) : Type 0 where
  pub taken : List ℕ
  pub moved : Moved taken [] before after
  pub tells : Tells result after.stream.state
  pub brings : Brings old taken result new after

-- room for the data of this WRITE is awaited
abbrev pub AwaitsRoom : Bool → Reader → Ask → Type 0
AwaitsRoom structured reader a = (h : RequestHead)
    × ((reader ≡ record { structured = structured; phase = Wants h }) × (h.size ≡ a.length))

-- the next request is awaited
abbrev pub between : Bool → Reader
between structured = record { structured = structured; phase = InHead [] }

-- data were taken, and a request was answered
pub record Answered {D : Type 0} (seen : D → Seen) (session : ℕ) (writable structured : Bool) (a : Ask)
    (body : List ℕ) (before after : Scene D) : Type 0 where
  pub verdict : Verdict
  pub does : Does seen session writable a body before.world verdict after.world
  pub moved : Moved body (reply_of structured a verdict) before.flow after.flow

-- a request that no data follow was answered, or there was no memory for it, and nothing changed
abbrev pub AnswersBare : {D : Type 0} → (D → Seen) → ℕ → Bool → Bool → Ask → WorldValue D → Progress → WorldValue D →
    Side → Buffers → Side → Buffers → Type 0
AnswersBare seen session writable structured a old progress.Goes new o s p t = Answers seen session writable
    structured a [] old new o s p t
AnswersBare seen session writable structured a old (progress.Ends status) new o s p t = (status ≡ Memory)
    × (new ≡ old) × (t ≡ s) × (p ≡ o)

-- The data of a WRITE came and it was answered; or the session ended within them, or behind them for want of memory.
abbrev pub Finishes : {E D : Type 0} → (D → Seen) → ℕ → Bool → Bool → Ask → Scene D → Result Progress E → Reader →
    Scene D → Type 0
Finishes seen session writable structured a before (Ok progress.Goes) new after =
    (body : List ℕ) × ((length body ≡ a.length) × Answered seen session writable structured a body before after
    × (new ≡ between structured))
Finishes seen session writable structured a before (Ok (progress.Ends Memory)) new
    after = (after.flow.stream.state ≡ Open) × Stops before after (λ taken. length taken ≡ a.length)
Finishes seen session writable structured a before (Ok (progress.Ends status)) new after =
    (status ≡ Ended end.Truncated) × IsUsedUp after.flow × (after.flow.stream.state ≡ Open)
    × Stops before after (λ taken. length taken < a.length)
Finishes seen session writable structured a before (Err e) new after = (after.flow.stream.state ≢ Open)
    × Stops before after (λ taken. length taken < a.length)

-- A request came and was answered, or the session ended before, or the stream failed within it.
abbrev pub ServesMessage : {E D : Type 0} → (D → Seen) → ℕ → Bool → Bool → Scene D → Result Progress E → Reader →
    Scene D → Type 0
ServesMessage seen session writable structured before (Ok progress.Goes) new after = (x : Exchange)
    × (Exchanges seen session writable structured before x after × (new ≡ between structured))
ServesMessage seen session writable structured before (Ok (progress.Ends status)) new
    after = (after.flow.stream.state ≡ Open) × Stops before after (Ending status after.flow)
ServesMessage seen session writable structured before (Err e) new after = (after.flow.stream.state ≢ Open)
    × Stops before after IsMessageFront
