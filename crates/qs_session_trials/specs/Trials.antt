-- The book of a station that keeps its calls.
use Rattle.std.specs.Prelude.{ℕ, true, false, List, [], ◌∷◌, Option, Some, None}
use Rattle.qs_part.specs.declared.graph.GraphOp.{GraphOp}
use Rattle.qs_part.specs.declared.graph.GraphOp.TheVariants as op
use Rattle.qs_part.specs.declared.graph.GraphOp.TheVariants.{ListExports}
use Rattle.qs_part.specs.declared.graph.ExportInfo.{ExportInfo}
use Rattle.qs_part.specs.declared.table.ExportRow.{ExportRow}
use Rattle.qs_part.specs.declared.graph.GraphReply.{GraphReply}
use Rattle.qs_part.specs.declared.graph.GraphReply.TheVariants.{Attached, Detached, Exports, Found, NoExport}
use Rattle.qs_part.specs.Histories.{call}
use Rattle.qs_task.specs.Books.{Book, notes}
use Rattle.qs_serving.specs.Graphs.{graph_noted}
use Rattle.qs_task_trials.specs.Kept.{no_calls}
use Rattle.qs_session_trials.specs.declared.station.OwnCall.{OwnCall}
use Rattle.qs_session_trials.specs.declared.station.OwnCall.TheVariants.{List as Listed, Find, Attach, Detach}
use Rattle.qs_session_trials.specs.declared.station.TrialCall.{TrialCall}
use Rattle.qs_session_trials.specs.declared.station.TrialCall.TheVariants.{ForRequest, ForSession}

-- the operation of a call
abbrev pub op_of : OwnCall → GraphOp
op_of Listed = ListExports []
op_of (Find name) = op.Find name
op_of (Attach name) = op.Attach name
op_of (Detach e) = op.Detach e

-- the export that stands
abbrev pub row_of : List ℕ → ExportRow
row_of name = record { id = name; name = name; node = name; shutting = false }

abbrev pub info : ExportInfo
info = record { e = 3; size = 4096; writable = true }

-- A client is let go. Each name means the export that stands, if one does.
abbrev pub session_reply : Option (List ℕ) → GraphOp → GraphReply
session_reply stands (op.Detach e) = Detached
session_reply None (op.ListExports table) = Exports table
session_reply (Some name) (op.ListExports table) = Exports (row_of name ∷ [])
session_reply (Some name) (op.Find other) = Found info
session_reply (Some name) (op.Attach other) = Attached info
session_reply stands op = NoExport

abbrev pub trial_noted : Option (List ℕ) → TrialCall → Book → Book
trial_noted stands (ForRequest n todo reply) book = notes (call n todo reply) book
trial_noted stands (ForSession own) book = graph_noted (op_of own) (session_reply stands (op_of own)) book

abbrev pub noted_from : Option (List ℕ) → Book → List TrialCall → Book
noted_from stands book [] = book
noted_from stands book (c ∷ calls) = noted_from stands (trial_noted stands c book) calls

abbrev pub trial_book : Option (List ℕ) → List TrialCall → Book
trial_book stands calls = noted_from stands no_calls calls
