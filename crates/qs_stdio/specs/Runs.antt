-- What `run_stdio` does, from its words to its status.
use Rattle.std.specs.Prelude.{◌≡◌, ◌≢◌, ◌^◌, ℕ, ◌⊎◌, Bool, true, false, not, List, [], ◌∷◌, ◌++◌, length, map, codes, None, Some, String, Result, Ok, Err}
use Rattle.std.specs.Global.{Global}
use Rattle.std.proofs.Common.{inl, inr}
use Rattle.qs_bytes.specs.declared.ask.Mode.{Mode}
use Rattle.qs_status.specs.declared.status.Status.{Status}
use Rattle.qs_status.specs.declared.status.Status.TheVariants as status
use Rattle.qs_opening.specs.declared.turn.Opened.{Opened}
use Rattle.qs_opening.specs.declared.turn.Opened.TheVariants.{Transmit, Ends as Ended}
use Rattle.qs_opening.specs.Openings.{OpensSession}
use Rattle.qs_outside.specs.Blocks.{Seen}
use Rattle.qs_outside.specs.declared.stream.Failed.{Failed}
use Rattle.qs_image.specs.Image.{content, size_of, AllTell, SameDisks}
use Rattle.qs_image.specs.Opening.{IsImage, Opens as OpensAs}
use Rattle.qs_part.specs.declared.event.Event.TheVariants.{Attach}
use Rattle.qs_part.specs.declared.event.Outcome.TheVariants.{Attached}
use Rattle.qs_part.specs.declared.graph.ExportInfo.{ExportInfo}
use Rattle.qs_stripe.specs.Table.{StripeState}
use Rattle.qs_world.specs.Values.{WorldValue, disks_of}
use Rattle.qs_calls.specs.Calls.{Happened, Plays}
use Rattle.qs_calls.specs.Runs.{Begins, HasRun}
use Rattle.qs_single.specs.Remaining.{IsCleanSettled, IsSettled}
use Rattle.qs_world.specs.Running.{meant}
use Rattle.qs_single.specs.Resting.{Attaches}
use Rattle.qs_stream.specs.declared.state.State.{State}
use Rattle.qs_stream.specs.declared.state.State.TheVariants as state
use Rattle.qs_stream.specs.Buffers.{Buffers, new_buffers}
use Rattle.qs_stream.specs.Flows.{Flow, Moved, Puts, Side}
use Rattle.qs_stdio_words.specs.declared.words.StdioWords.{StdioWords}
use Rattle.qs_stdio_words.specs.Words.{command}
use Rattle.qs_stdio.specs.Service.{Exchange, AllFit, CalledAll, LeadsAll, OutlastsAll, asked_bytes, answered_bytes, rounds}
use Rattle.qs_stdio.specs.Surviving.{Survives}
use Rattle.qs_stdio.specs.Scenes.{Scene, IsMessageFront, IsWholeMessage, Ending, disks_in}

-- the side that failed, by the status of the run
abbrev pub side_of : Status → State
side_of status.ReadFault = state.ReadFault
side_of status.WriteFault = state.WriteFault
side_of other = state.Open

-- the status of a run whose stream failed
abbrev pub fault_at : State → Status
fault_at state.ReadFault = status.ReadFault
fault_at other = status.WriteFault

-- the status of a run
abbrev pub status_by : {E : Type 0} → Result Status E → State → Status
status_by (Ok told) now = told
status_by (Err e) now = fault_at now

-- How a session ended: Spent where its whole budget of messages was read, Memory before the first or behind a whole
-- request, and else as the bytes behind the last answered request say. Where a side failed, they are less than a
-- message, or, at the last write, what ended the session.
abbrev pub EndsSession : Status → ℕ → List Exchange → Flow → List ℕ → Type 0
EndsSession status.Spent budget exchanges after rest = (rest ≡ []) × (length exchanges ≡ budget)
EndsSession status.Memory budget exchanges after rest = ((rest ≡ []) × (exchanges ≡ [])) ⊎ IsWholeMessage rest
EndsSession status.ReadFault budget exchanges after rest = IsMessageFront rest
EndsSession status.WriteFault budget exchanges after rest = IsMessageFront rest
    ⊎ ((told : Status) × Ending told after rest)
EndsSession other budget exchanges after rest = Ending other after rest

-- A session: requests were read one after the other, answered by the plain service, and their replies
-- written in order, a front of them where a side failed.
pub record Sitting {D : Type 0} (seen : D → Seen) (session : ℕ) (writable structured : Bool) (budget : ℕ)
    (before after : Scene D) (result : Status) : Type 0 where
  -- the requests that were answered, and the bytes that were taken behind them
  pub exchanges : List Exchange
  pub rest : List ℕ
  pub fit : AllFit session (size_of (disks_in seen before)) writable structured exchanges
  -- what was read is the requests and the rest; what was given to the output is their replies
  pub moved : Moved (asked_bytes exchanges ++ rest) (answered_bytes exchanges) before.flow after.flow
  pub failed : after.flow.stream.state ≡ side_of result
  pub whole : side_of result ≡ state.Open → after.flow.stream.held ≡ []
  -- the content goes on from request to request; the core was called for these alone
  pub service : AllTell (disks_in seen before) →
      LeadsAll (content (disks_in seen before)) exchanges (content (disks_in seen after))
  pub called : CalledAll (disks_in seen before) exchanges (disks_in seen after)
  -- and so does what a crash may leave, where it leaves of each clean stripe what its blocks hold
  pub outlasts : AllTell (disks_in seen before) → IsCleanSettled seen before.world →
      OutlastsAll (disks_in seen before) exchanges (disks_in seen after)
  pub plays : Plays (λ d. d) (meant seen before.world) (rounds exchanges) (meant seen after.world)
  pub same : SameDisks (disks_in seen before) (disks_in seen after)
  pub ends : EndsSession result budget exchanges after.flow rest

-- the first scene of a session
abbrev pub opening_scene : {D : Type 0} → Side → Side → WorldValue D → Scene D
opening_scene input output world = record {
  flow = record { input = input; output = output; stream = new_buffers };
  world = world;
}

-- and the last one
abbrev pub last_scene : {D : Type 0} → Side → Side → Buffers → WorldValue D → Scene D
last_scene input output stream world = record {
  flow = record { input = input; output = output; stream = stream };
  world = world;
}

-- what sessions without a handshake agreed on
abbrev pub plain_mode : Mode
plain_mode = record { no_zeroes = false; structured = false }

-- How a session came to where its requests begin, with this core and by this mode: at once, at the export `disk`; or
-- behind a handshake, whose last option was answered so that requests follow.
abbrev pub ComesTo : {D : Type 0} → (D → Seen) → Bool → Bool → ℕ → Side → Side → WorldValue D → List ℕ → Mode → Flow →
    WorldValue D → Type 0
ComesTo seen true read_only budget input output start name mode flow begun =
    (mode ≡ plain_mode) × (flow ≡ (opening_scene input output begun).flow) × (name ≡ codes "disk")
ComesTo seen false read_only budget input output start name mode flow begun =
    OpensSession {E = Failed} seen 0 (not read_only) budget (opening_scene input output start).flow start
    (Ok (Transmit mode)) flow begun

-- A session was attached to a core that was just opened, and sat to its end. Its calls are a run from the opening,
-- with all laws.
pub record Sits {D : Type 0} (seen : D → Seen) (disks : List D) (read_only transmission : Bool) (budget : ℕ)
    (input output : Side) (start : WorldValue D) (result : Status)
    (input' output' : Side) (new : WorldValue D) : Type 0 where
  pub begun : WorldValue D
  pub name : List ℕ
  pub info : ExportInfo
  pub attaches : Attaches seen 0 (not read_only) start name info begun
  pub mode : Mode
  pub flow : Flow
  pub comes : ComesTo seen transmission read_only budget input output start name mode flow begun
  pub stream : Buffers
  pub sits : Sitting seen 0 (not read_only) mode.structured budget (record { flow = flow; world = begun })
      (last_scene input' output' stream new) result
  pub run : HasRun (λ d. d) (map seen disks) read_only (meant seen start)
      (Happened (Attach 0 name) (Attached info) ∷ rounds sits.exchanges) (meant seen new)

-- The answers that waited were written, and the session ends as it was told; or a side failed.
abbrev pub EndsAs : Status → Status → Buffers → Type 0
EndsAs told result stream = ((stream.state ≡ state.Open) × (stream.held ≡ []) × (result ≡ told))
    ⊎ ((stream.state ≢ state.Open) × (result ≡ fault_at stream.state))

pub record Closes (output : Side) (old : Buffers) (told : Status) (output' : Side) (new : Buffers)
    (result : Status) : Type 0 where
  pub puts : Puts [] output old output' new
  pub ends : EndsAs told result new

-- the status where the handshake ended the session
abbrev pub Concludes : {E : Type 0} → Result Opened E → Status → Buffers → Type 0
Concludes (Ok (Transmit mode)) result stream = ⊥
Concludes (Ok (Ended told)) result stream = EndsAs told result stream
Concludes (Err e) result stream = (stream.state ≢ state.Open) × (result ≡ fault_at stream.state)

-- The handshake ended the session, and no request was read.
pub record Declines {D : Type 0} (seen : D → Seen) (read_only : Bool) (budget : ℕ) (input output : Side)
    (start : WorldValue D) (result : Status)
    (input' output' : Side) (new : WorldValue D) : Type 0 where
  pub opened : Result Opened Failed
  pub flow : Flow
  pub opens : OpensSession {E = Failed} seen 0 (not read_only) budget (opening_scene input output start).flow start
      opened flow new
  pub stream : Buffers
  pub written : Moved [] [] flow (last_scene input' output' stream new).flow
  pub concludes : Concludes opened result stream
  pub failed : stream.state ≡ side_of result
  pub disks : disks_of seen new ≡ disks_of seen start

-- nothing was read or written
pub record Idles (input output input' output' : Side) : Type 0 where
  pub input_same : input' ≡ input
  pub output_same : output' ≡ output

-- Memory was refused before anything was read or written.
pub record Forgoes {D : Type 0} (seen : D → Seen) (input output : Side) (start : WorldValue D) (result : Status)
    (input' output' : Side) (new : WorldValue D) : Type 0 where
  pub result_is : result ≡ status.Memory
  pub idle : Idles input output input' output'
  pub same : disks_of seen new ≡ disks_of seen start

-- One client was served over a core that was just opened, with a handshake or without one.
abbrev pub ServesStream : {D : Type 0} → (D → Seen) → List D → Bool → Bool → ℕ → Side → Side → WorldValue D → Status →
    Side → Side → WorldValue D → Type 0
ServesStream seen disks read_only transmission budget input output start result input' output' new =
    Sits seen disks read_only transmission budget input output start result input' output' new
    ⊎ (Forgoes seen input output start result input' output' new
    ⊎ ((transmission ≡ false) × Declines seen read_only budget input output start result input' output' new))

-- its exchanges
abbrev pub exchanges_in : {D : Type 0} {seen : D →
    Seen} {disks : List D} {read_only transmission : Bool} {budget : ℕ} {input output : Side} {start : WorldValue
    D} {result : Status}
    {input' output' : Side} {new : WorldValue D} →
    ServesStream seen disks read_only transmission budget input output start result input' output' new →
    List Exchange
exchanges_in (inl sits) = sits.sits.exchanges
exchanges_in (inr other) = []

-- A client was served over the disks: they are an image, and hold then what was left.
pub record Holds {D : Type 0} (seen : D → Seen) (disks : List D) (read_only transmission : Bool) (input output : Side)
    (result : Status) (disks' : List D) (input' output' : Side) : Type 0 where
  pub image : IsImage (map seen disks)
  pub start : WorldValue D
  pub begins : Begins seen disks read_only start
  pub new : WorldValue D
  pub serves : ServesStream seen disks read_only transmission (2 ^ 32) input output start result input' output' new
  pub disks_are : disks' ≡ map (λ (s : StripeState D). s.disk) new.stripes
  -- of the disks as they came and as they come back: the content goes on from request to request, and nothing else
  -- was made of them
  pub service : AllTell (map seen disks) → LeadsAll (content (map seen disks)) (exchanges_in serves)
      (content (map seen disks'))
  pub called : CalledAll (map seen disks) (exchanges_in serves) (map seen disks')
  pub same : SameDisks (map seen disks) (map seen disks')
  -- where they came settled, a crash leaves nothing older than a FLUSH that is Fine
  pub survives : AllTell (map seen disks) → IsSettled (map seen disks) →
      Survives (map seen disks) (exchanges_in serves) (map seen disks')

-- the disks are tested, and one client is served over them, at most 2^32 requests; memory may be refused before
abbrev pub ServesWords : {D : Type 0} → (D → Seen) → StdioWords → List D → Side → Side → Status → List D → Side →
    Side → Type 0
ServesWords seen told disks input output status.Usage disks' input' output' = ⊥
ServesWords seen told disks input output (status.OpenBad bad) disks' input' output' = OpensAs (map seen disks)
    (Some bad) × (disks' ≡ disks) × Idles input output input' output'
ServesWords seen told disks input output status.Memory disks' input' output' =
    ((map seen disks' ≡ map seen disks) × Idles input output input' output')
    ⊎ Holds seen disks told.read_only told.transmission input output status.Memory disks' input' output'
ServesWords seen told disks input output other disks' input' output' = Holds seen disks told.read_only
    told.transmission input output other disks' input' output'

-- One call of `run_stdio`: the words are tested first, then the disks; then a client is served, behind a handshake
-- unless the words say that requests come at once, over an export that may be written unless they say that it is
-- read-only.
abbrev pub Ran : {D : Type 0} → List (String Global) → (D → Seen) → List D → Side → Side → Status → List D → Side →
    Side → Type 0
Ran words seen disks input output status.Usage disks' input' output' = (command words ≡ None) × (disks' ≡ disks)
    × Idles input output input' output'
Ran words seen disks input output other disks' input' output' =
    (told : StdioWords) × (command words ≡ Some told)
    × ServesWords seen told disks input output other disks' input' output'
