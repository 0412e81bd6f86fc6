-- Lines that are cut out of what a stream brings.
use Rattle.std.specs.Prelude.{◌≡◌, ◌≢◌, ℕ, ◌<◌, List, [], ◌∷◌, ◌++◌, length, Option, IfNone, Result, Ok, Err}
use Rattle.std.specs.Io.KnownBytes.{IsAtEnd}
use Rattle.qs_script.specs.Cuts.{Cuts, longest_line}
use Rattle.qs_script.specs.Finds.{HasNo}
use Rattle.qs_script.specs.declared.cutter.Cut.{Cut}
use Rattle.qs_script.specs.declared.cutter.Cut.TheVariants as cut
use Rattle.qs_stream.specs.Bytes.{Gives}
use Rattle.qs_stream.specs.Flows.{Flow, Moved, Tells}
use Rattle.qs_stream.specs.declared.state.State.TheVariants as state
use Rattle.qs_replay.specs.declared.lines.Came.{Came}
use Rattle.qs_replay.specs.declared.lines.Came.TheVariants as came

-- bytes that wait were taken into the line: all of them, or those up to its end
pub record Feeds (old waiting : List ℕ) (event : Option Cut) (new waiting' : List ℕ) : Type 0 where
  pub taken : List ℕ
  pub joined : waiting ≡ taken ++ waiting'
  pub cuts : Cuts old taken event new
  pub whole : IfNone event (waiting' ≡ [])

-- what a cut makes of the bytes before it
abbrev pub came_of : Cut → Came
came_of cut.Line = came.Line
came_of cut.TooLong = came.TooLong

-- the input's end behind these bytes of a line
abbrev pub end_of : List ℕ → Came
end_of [] = came.End
end_of (x ∷ xs) = came.Last

-- the input has no byte more
abbrev pub IsReadUp : Option (List ℕ) → List ℕ → Type 0
IsReadUp left waiting = IsAtEnd left × (waiting ≡ [])

-- the bytes of a line without its LF
pub record IsText (text : List ℕ) : Type 0 where
  pub no_end : HasNo 10 text
  pub short : length text < longest_line

-- all that waited to be written, and all that was given, was sent
abbrev pub AllSent : List ℕ → Flow → Flow → Type 0
AllSent given old new = Gives old.output.bytes old.stream.held given new.output.bytes []

-- What was taken off the input: a line and its LF, the last line without one, nothing before the end, or
-- too many bytes for a line. Where the stream failed, it was a front of a line.
abbrev pub PieceComes : {E : Type 0} → List ℕ → Result Came E → List ℕ → Flow → Type 0
PieceComes taken (Ok came.Line) text after = (taken ≡ text ++ 10 ∷ []) × IsText text
PieceComes taken (Ok came.Last) text after = (taken ≡ text) × IsText text × (text ≢ [])
    × IsReadUp after.input.bytes after.stream.waiting
PieceComes taken (Ok came.End) text after = (taken ≡ []) × IsReadUp after.input.bytes after.stream.waiting
PieceComes taken (Ok came.TooLong) text after = (taken ≡ text) × HasNo 10 text × (length text ≡ longest_line)
PieceComes taken (Err e) text after = IsText taken

-- The next line was sought. Where the input failed meanwhile, all that waited had been written.
pub record Seeks {E : Type 0} (before : Flow) (result : Result Came E) (text : List ℕ) (after : Flow) : Type 0 where
  pub taken : List ℕ
  pub moved : Moved taken [] before after
  pub tells : Tells result after.stream.state
  pub comes : PieceComes taken result text after
  pub written : before.stream.state ≢ state.ReadFault → after.stream.state ≡ state.ReadFault → AllSent [] before after
