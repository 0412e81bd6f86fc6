-- A whole script: its lines, one after the other, and how it ends.
use Rattle.std.specs.Prelude.{◌≡◌, ◌≢◌, ℕ, ◌+◌, ◌<◌, ◌≤◌, ◌==◌, ◌⊎◌, Bool, true, false, List, [], ◌∷◌, ◌++◌, length, Option, Result, Ok, Err, if◌then◌else◌}
use Rattle.qs_outside.specs.Blocks.{Seen}
use Rattle.qs_status.specs.declared.status.Status.{Status}
use Rattle.qs_status.specs.declared.status.Status.TheVariants as status
use Rattle.qs_script.specs.Cuts.{longest_line}
use Rattle.qs_script.specs.Finds.{HasNo}
use Rattle.qs_script.specs.Lines.{ReadsLine}
use Rattle.qs_script.specs.declared.line.Line.{Line}
use Rattle.qs_stream.specs.declared.state.State.{State}
use Rattle.qs_stream.specs.declared.state.State.TheVariants as state
use Rattle.qs_stream.specs.Buffers.{Buffers}
use Rattle.qs_stream.specs.Flows.{Flow, Moved, Puts, Side, flow as stream_flow}
use Rattle.qs_world.specs.Values.{WorldValue}
use Rattle.qs_replay_lines.specs.declared.desk.Desk.{Desk}
use Rattle.qs_replay_lines.specs.declared.stop.Stop.{Stop}
use Rattle.qs_replay_lines.specs.declared.told.LineTold.{LineTold}
use Rattle.qs_replay_lines.specs.declared.stop.Stop.TheVariants as stop
use Rattle.qs_replay.specs.declared.replay.LineOutcome.{LineOutcome}
use Rattle.qs_replay.specs.declared.replay.LineOutcome.TheVariants as line_outcome
use Rattle.qs_calls.specs.Calls.{Call, Plays}
use Rattle.qs_replay_lines.specs.Effects.{CannotCome, DrivesNotLive, IsCutLine, IsPlayed, UsesAgain}
use Rattle.qs_replay.specs.Readings.{AllSent, IsText, IsReadUp}
use Rattle.qs_replay_lines.specs.Tables.{Names}

-- it is too long, or no line is spelled, or one that uses a cookie again
abbrev pub IsBad : Names → List ℕ → Type 0
IsBad t text = (longest_line ≤ length text) ⊎ ((l : Line) → ReadsLine text l → ⊥)
    ⊎ ((l : Line) × (ReadsLine text l × UsesAgain t l))

-- its event can't come, or its actor is no request that was made
abbrev pub IsUntimely : {D : Type 0} → WorldValue D → Names → List ℕ → Type 0
IsUntimely w t text = (l : Line) × (ReadsLine text l × (UsesAgain t l → ⊥) × (CannotCome w t l ⊎ DrivesNotLive t l))

-- why a line wasn't done to its end, and the calls that it made
abbrev pub Why : {D : Type 0} → WorldValue D → Names → List ℕ → Stop → List Call → Type 0
Why w t text stop.BadLine calls = (calls ≡ []) × IsBad t text
Why w t text stop.NotNext calls = (calls ≡ []) × IsUntimely w t text
Why w t text stop.Memory calls = (l : Line) × (ReadsLine text l × IsCutLine t l calls)

-- The text of one line was done. Of a `write` the bytes are lost where memory was refused for them; then the request
-- has none.
pub record DoesText {D : Type 0} (seen : D → Seen) (w : WorldValue D) (t : Names) (text : List ℕ) (calls : List Call)
    (printed : List ℕ)
    (w' : WorldValue D) (t' : Names) : Type 0 where
  pub line : Line
  pub lost : Bool
  pub reads : ReadsLine text line
  pub is : IsPlayed seen w t line lost calls printed w' t'

-- it wasn't done to its end; of it nothing was printed
pub record LeavesText {D : Type 0} (seen : D → Seen) (w : WorldValue D) (t : Names) (text : List ℕ) (s : Stop)
    (w' : WorldValue D) : Type 0 where
  pub calls : List Call
  pub plays : Plays seen w calls w'
  pub why : Why w t text s calls

-- what came of a line, without its numbers
abbrev pub done_of : Result LineTold Stop → Result Unit Stop
done_of (Ok told) = Ok tt
done_of (Err s) = Err s

-- at a desk
abbrev pub PlaysText : {D : Type 0} → (D → Seen) → Desk D → List ℕ → Result Unit Stop → Desk D → Type 0
PlaysText seen old text (Ok u) new =
    (calls : List Call) × (printed : List ℕ) × (DoesText seen old.world old.table text calls printed new.world
    new.table × (new.out ≡ old.out ++ printed))
PlaysText seen old text (Err s) new = LeavesText seen old.world old.table text s new.world × (new.out ≡ old.out)

-- at a desk where nothing waits, and what was printed was put
abbrev pub PutsText : {D : Type 0} → (D → Seen) → Desk D → Side → Buffers → List ℕ → Result Unit Stop → Desk D →
    Side → Buffers → Type 0
PutsText seen old output stream text (Ok u) new output' stream' =
    (calls : List Call) × (printed : List ℕ) ×
    (DoesText seen old.world old.table text calls printed new.world new.table
    × Puts printed output stream output' stream')
PutsText seen old output stream text (Err s) new output' stream' =
    LeavesText seen old.world old.table text s new.world × (output' ≡ output) × (stream' ≡ stream)

-- one line was done, and then others
pub record DoesFirst {D : Type 0} (seen : D → Seen) (w : WorldValue D) (t : Names) (text : List ℕ) (calls : List Call)
    (printed : List ℕ)
    (others : WorldValue D → Names → List Call → List ℕ → Type 0) : Type 0 where
  pub first : List Call
  pub later : List Call
  pub words : List ℕ
  pub more : List ℕ
  pub world : WorldValue D
  pub names : Names
  pub is_text : IsText text
  pub does : DoesText seen w t text first words world names
  pub rest : others world names later more
  pub calls_are : calls ≡ first ++ later
  pub printed_are : printed ≡ words ++ more

-- no line was
pub record DoesNone {D : Type 0} (w : WorldValue D) (t : Names) (calls : List Call) (printed : List ℕ)
    (w' : WorldValue D) (t' : Names) : Type 0 where
  pub calls_are : calls ≡ []
  pub printed_are : printed ≡ []
  pub world : w' ≡ w
  pub names : t' ≡ t

-- texts of lines were done one after the other
abbrev pub AllDone : {D : Type 0} → (D → Seen) → WorldValue D → Names → List (List ℕ) → List Call → List ℕ →
    WorldValue D → Names → Type 0
AllDone seen w t [] calls printed w' t' = DoesNone w t calls printed w' t'
AllDone seen w t (text ∷ texts) calls printed w' t' =
    DoesFirst seen w t text calls printed (λ mid names later more. AllDone seen mid names texts later more w' t')

-- the texts, each with its LF
abbrev pub spelled_lines : List (List ℕ) → List ℕ
spelled_lines [] = []
spelled_lines (text ∷ texts) = text ++ 10 ∷ spelled_lines texts

-- What is seen of a replay: the stream with its two sides, the core, and what names stand for.
pub record Scene (D : Type 0) : Type 0 where
  pub flow : Flow
  pub world : WorldValue D
  pub names : Names

-- by the meanings of the source and of the sink
abbrev pub scene : {I O D : Type 0} → (I → Option (List ℕ)) → (I → ℕ) → (O → Option (List ℕ)) → (O → ℕ) → I → O →
    Buffers → WorldValue D → Names → Scene D
scene left read_faults sent write_faults input output stream world names = record {
  flow = stream_flow left read_faults sent write_faults input output stream;
  world = world;
  names = names;
}

-- nothing happens to the core
pub record Idles {D : Type 0} (before : Scene D) (printed : List ℕ) (after : Scene D) : Type 0 where
  pub world : after.world ≡ before.world
  pub names : after.names ≡ before.names
  pub printed_is : printed ≡ []

-- a line's text was taken with its LF, or the last one, which isn't empty, without
abbrev pub IsLine : List ℕ → List ℕ → Option (List ℕ) → List ℕ → Type 0
IsLine taken text left waiting = (taken ≡ text ++ 10 ∷ []) ⊎ ((taken ≡ text) × (text ≢ []) × IsReadUp left waiting)

-- What was taken of a line that wasn't done: the line, or too many bytes.
abbrev pub IsTaken : Stop → List ℕ → List ℕ → Option (List ℕ) → List ℕ → Type 0
IsTaken stop.BadLine taken text left waiting = IsLine taken text left waiting
    ⊎ ((taken ≡ text) × (length text ≡ longest_line))
IsTaken stop.NotNext taken text left waiting = IsLine taken text left waiting × (length text < longest_line)
IsTaken stop.Memory taken text left waiting = IsLine taken text left waiting × (length text < longest_line)

abbrev pub TurnDoes : {D : Type 0} → (D → Seen) → Scene D → LineOutcome → List ℕ → List ℕ → List Call → List ℕ →
    Scene D → Type 0
TurnDoes seen before line_outcome.Goes text taken calls printed after =
    (taken ≡ text ++ 10 ∷ []) × IsText text × DoesText seen before.world before.names text calls printed after.world
    after.names
TurnDoes seen before line_outcome.Last text taken calls printed after =
    (taken ≡ text) × IsText text × (text ≢ []) × IsReadUp after.flow.input.bytes after.flow.stream.waiting ×
    DoesText seen before.world before.names text calls printed after.world after.names
TurnDoes seen before line_outcome.End text taken calls printed after =
    (taken ≡ []) × IsReadUp after.flow.input.bytes after.flow.stream.waiting × Idles before printed after
TurnDoes seen before (line_outcome.Stops s) text taken calls printed after =
    IsTaken s taken text after.flow.input.bytes after.flow.stream.waiting × (printed ≡ [])
    × LeavesText seen before.world before.names text s after.world
TurnDoes seen before other text taken calls printed after = (taken ≡ text) × Idles before printed after

-- The stream behind a line: it goes on, or one of its sides failed; what a line printed may have failed to be written.
abbrev pub StreamAfter : LineOutcome → State → Type 0
StreamAfter line_outcome.ReadFault now = now ≡ state.ReadFault
StreamAfter line_outcome.WriteFault now = now ≡ state.WriteFault
StreamAfter line_outcome.Goes now = now ≢ state.ReadFault
StreamAfter line_outcome.Last now = now ≢ state.ReadFault
StreamAfter other now = now ≡ state.Open

-- what a stream that failed makes of a line
abbrev pub fault_turn : State → LineOutcome
fault_turn state.ReadFault = line_outcome.ReadFault
fault_turn other = line_outcome.WriteFault

-- One line was read, and what came of it. Where the input failed meanwhile, all that waited had been written.
pub record Turns {D : Type 0} (seen : D → Seen) (before : Scene D) (r : LineOutcome) (after : Scene D) : Type 0 where
  pub text : List ℕ
  pub taken : List ℕ
  pub calls : List Call
  pub printed : List ℕ
  pub no_end : HasNo 10 text
  pub moved : Moved taken printed before.flow after.flow
  pub does : TurnDoes seen before r text taken calls printed after
  pub stream_is : StreamAfter r after.flow.stream.state
  pub written : r ≡ line_outcome.ReadFault → before.flow.stream.state ≢ state.ReadFault →
      AllSent [] before.flow after.flow

-- so many lines were done
pub record SoFar {D : Type 0} (seen : D → Seen) (before : Scene D) (n : ℕ) (after : Scene D) : Type 0 where
  pub texts : List (List ℕ)
  pub calls : List Call
  pub printed : List ℕ
  pub count : length texts ≡ n
  pub done : AllDone seen before.world before.names texts calls printed after.world after.names
  pub moved : Moved (spelled_lines texts) printed before.flow after.flow
  pub reads : after.flow.stream.state ≢ state.ReadFault

-- the side that failed, by the status of the run
abbrev pub side_of : Status → State
side_of status.ReadFault = state.ReadFault
side_of status.WriteFault = state.WriteFault
side_of other = state.Open

-- the output is whole
abbrev pub is_whole : Status → Bool
is_whole status.WriteFault = false
is_whole status.Memory = false
is_whole other = true

-- nothing is written at such an end: a side had failed, or memory was refused
abbrev pub is_silent : Status → Bool
is_silent status.Memory = true
is_silent status.ReadFault = true
is_silent status.WriteFault = true
is_silent other = false

-- What waited was written at the end, or couldn't be, unless a side had failed before or memory was refused.
pub record Finishes (output : Side) (old : Buffers) (before result : Status) (output' : Side)
    (new : Buffers) : Type 0 where
  pub puts : Puts [] output old output' new
  pub how : ((is_silent before ≡ true) × (result ≡ before) × (output' ≡ output) × (new ≡ old))
      ⊎ ((is_silent before ≡ false) ×
      (((result ≡ before) × (new.state ≡ state.Open) × (new.held ≡ []))
      ⊎ ((result ≡ status.WriteFault) × (new.state ≢ state.Open))))

-- the status of a script that ends with this line
abbrev pub status_of : LineOutcome → ℕ → Status
status_of line_outcome.Goes n = status.Spent
status_of line_outcome.Last n = status.Done
status_of line_outcome.End n = status.Done
status_of (line_outcome.Stops stop.BadLine) n = status.BadLine n
status_of (line_outcome.Stops stop.NotNext) n = status.NotNext n
status_of (line_outcome.Stops stop.Memory) n = status.Memory
status_of line_outcome.ReadFault n = status.ReadFault
status_of line_outcome.WriteFault n = status.WriteFault

-- the texts of the lines, each with its LF, which a last one that isn't empty may lack
abbrev pub IsScript : List ℕ → List (List ℕ) → Type 0
IsScript taken texts = (taken ≡ spelled_lines texts) ⊎
    ((front : List (List ℕ)) × (text : List ℕ)
    × ((texts ≡ front ++ text ∷ []) × (text ≢ []) × (taken ≡ spelled_lines front ++ text)))

-- the line behind the texts wasn't done to its end; its calls were these
pub record BreaksOff {D : Type 0} (s : Stop) (texts : List (List ℕ)) (taken : List ℕ) (cut : List Call)
    (w : WorldValue D) (t : Names)
    (left : Option (List ℕ)) (waiting : List ℕ) : Type 0 where
  pub text : List ℕ
  pub bytes : List ℕ
  pub no_end : HasNo 10 text
  pub taken_is : taken ≡ spelled_lines texts ++ bytes
  pub is_taken : IsTaken s bytes text left waiting
  pub why : Why w t text s cut

-- a front of a line was taken
abbrev pub IsBegun : List (List ℕ) → List ℕ → Type 0
IsBegun texts taken = (text : List ℕ) × (HasNo 10 text × (taken ≡ spelled_lines texts ++ text))

-- Where the output failed: the texts were taken, each with its LF, and perhaps bytes behind them; or the whole script
-- was.
abbrev pub IsReadFront : List (List ℕ) → List ℕ → Option (List ℕ) → List ℕ → Type 0
IsReadFront texts taken left waiting = ((more : List ℕ) × (taken ≡ spelled_lines texts ++ more))
    ⊎ (IsScript taken texts × IsReadUp left waiting)

-- How a script ends behind the texts of the lines that were done: what was taken, the calls of a line that was cut
-- off, the names and the core before these, and the input. A script whose last line has its LF is done only within
-- the budget.
abbrev pub EndsScript : {D : Type 0} → Status → ℕ → List (List ℕ) → List ℕ → List Call → WorldValue D → Names →
    Option (List ℕ) → List ℕ → Type 0
EndsScript status.Done budget texts taken cut w t left waiting = IsScript taken texts × IsReadUp left waiting
    × (cut ≡ []) × (taken ≡ spelled_lines texts → length texts < budget)
EndsScript (status.BadLine n) budget texts taken cut w t left waiting = (n ≡ length texts + 1)
    × BreaksOff stop.BadLine texts taken cut w t left waiting × (n ≤ budget)
EndsScript (status.NotNext n) budget texts taken cut w t left waiting = (n ≡ length texts + 1)
    × BreaksOff stop.NotNext texts taken cut w t left waiting × (n ≤ budget)
EndsScript status.Memory budget texts taken cut w t left waiting = BreaksOff stop.Memory texts taken cut w t left
    waiting
EndsScript status.ReadFault budget texts taken cut w t left waiting = (cut ≡ []) × IsBegun texts taken
EndsScript status.WriteFault budget texts taken cut w t left waiting = (cut ≡ []) × IsReadFront texts taken left waiting
EndsScript status.Spent budget texts taken cut w t left waiting = (length texts ≡ budget)
    × (taken ≡ spelled_lines texts) × (cut ≡ [])
EndsScript other budget texts taken cut w t left waiting = ⊥

-- A script was replayed: its lines were done in order up to its end, and what they print was written, a front
-- of it where the output failed or memory was refused. A side of the stream failed exactly where the status says so.
pub record Replays {D : Type 0} (seen : D → Seen) (before : Scene D) (budget : ℕ) (result : Status)
    (after : Scene D) : Type 0 where
  pub texts : List (List ℕ)
  pub calls : List Call
  pub printed : List ℕ
  pub world : WorldValue D
  pub names : Names
  pub done : AllDone seen before.world before.names texts calls printed world names
  pub few : length texts ≤ budget
  pub taken : List ℕ
  pub moved : Moved taken printed before.flow after.flow
  pub failed : after.flow.stream.state ≡ side_of result
  pub whole : is_whole result ≡ true → AllSent printed before.flow after.flow
  pub cut : List Call
  pub cut_plays : Plays seen world cut after.world
  pub ends : EndsScript result budget texts taken cut world names after.flow.input.bytes after.flow.stream.waiting

-- The lines of a script: each ends in LF, which the last may lack where it isn't empty.
abbrev pub lines_from : List ℕ → List ℕ → List (List ℕ)
lines_from [] [] = []
lines_from (b ∷ line) [] = (b ∷ line) ∷ []
lines_from line (b ∷ bytes) = if b == 10 then line ∷ lines_from [] bytes else lines_from (line ++ b ∷ []) bytes

abbrev pub lines_of : List ℕ → List (List ℕ)
lines_of script = lines_from [] script

-- the line behind these is so
abbrev pub IsNextLine : List (List ℕ) → List (List ℕ) → (List ℕ → Type 0) → Type 0
IsNextLine lines texts P = (line : List ℕ) × (rest : List (List ℕ)) × ((lines ≡ texts ++ line ∷ rest) × P line)

-- How far a replay came in the lines of its script, by its status: through all of them; up to the first that is bad,
-- or can't come; through as many as the budget lets; or through some.
abbrev pub ReachesLine : {D : Type 0} → Status → ℕ → List (List ℕ) → List (List ℕ) → WorldValue D → Names → Type 0
ReachesLine status.Done budget lines texts w t = texts ≡ lines
ReachesLine (status.BadLine n) budget lines texts w t = (n ≡ length texts + 1) × IsNextLine lines texts (IsBad t)
ReachesLine (status.NotNext n) budget lines texts w t = (n ≡ length texts + 1)
    × IsNextLine lines texts (λ line. IsText line × IsUntimely w t line)
ReachesLine status.Spent budget lines texts w t = (length texts ≡ budget)
    × ((rest : List (List ℕ)) × (lines ≡ texts ++ rest))
ReachesLine other budget lines texts w t = (rest : List (List ℕ)) × (lines ≡ texts ++ rest)
