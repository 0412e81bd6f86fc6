-- What a session asks the graph for the answer to an option, and what it tells then.
use Rattle.std.specs.Prelude.{◌≡◌, ℕ, if◌then◌else◌, List, [], ◌∷◌, Option, Some, None}
use Rattle.std.specs.List.{flat_map}
use Rattle.qs_nbd_handshake.specs.declared.event.Told.{Told}
use Rattle.qs_nbd_handshake.specs.declared.event.Told.TheVariants as told
use Rattle.qs_nbd_handshake.specs.declared.event.Want.{Want}
use Rattle.qs_nbd_handshake.specs.declared.event.Want.TheVariants as want
use Rattle.qs_part.specs.declared.graph.GraphOp.{GraphOp}
use Rattle.qs_part.specs.declared.graph.GraphOp.TheVariants as op
use Rattle.qs_part.specs.declared.graph.GraphReply.{GraphReply}
use Rattle.qs_part.specs.declared.graph.GraphReply.TheVariants as reply
use Rattle.qs_part.specs.declared.graph.ExportInfo.{ExportInfo}
use Rattle.qs_part.specs.declared.table.ExportRow.{ExportRow}
use Rattle.qs_task.specs.Books.{Book}
use Rattle.qs_serving.specs.Graphs.{graph_noted}

-- a call of the graph that a session makes for itself
pub record OwnCall : Type 0 where
  pub op : GraphOp
  pub reply : GraphReply

-- such calls, noted in their order
abbrev pub noted_calls : List OwnCall → Book → Book
noted_calls [] book = book
noted_calls (c ∷ calls) book = noted_calls calls (graph_noted c.op c.reply book)

-- The operation whose reply answers what is wanted. None is needed for nothing, nor for bytes that are no name.
abbrev pub op_for : Want → Option GraphOp
op_for want.Nothing = None
op_for (want.Find None) = None
op_for (want.Find (Some name)) = Some (op.Find name)
op_for (want.Attach None) = None
op_for (want.Attach (Some name)) = Some (op.Attach name)
op_for want.Names = Some (op.ListExports [])

-- LIST tells the exports that stand (NBD proto.md, "NBD_OPT_LIST"), in the order in which they were made
abbrev pub name_shown : ExportRow → List (List ℕ)
name_shown row = if row.shutting then [] else row.name ∷ []

abbrev pub standing_names : List ExportRow → List (List ℕ)
standing_names rows = flat_map name_shown rows

abbrev pub info_told : ExportInfo → Told
info_told info = told.Info (record { size = info.size; writable = info.writable })

-- what a reply of the graph tells
abbrev pub told_by : GraphReply → Told
told_by (reply.Found info) = info_told info
told_by (reply.Attached info) = info_told info
told_by reply.Crowded = told.Crowded
told_by (reply.Exports rows) = told.Names (standing_names rows)
told_by other = told.Missing

-- and what is told where none was needed
abbrev pub told_without : Want → Told
told_without want.Nothing = told.Nothing
told_without (want.Find name) = told.Missing
told_without (want.Attach name) = told.Missing
told_without want.Names = told.Missing

-- the export that a session became a client of
abbrev pub client_by : GraphReply → Option ℕ
client_by (reply.Attached info) = Some info.e
client_by other = None

-- What is wanted was answered: these calls were made for it, this is told, and the session is a client of this export.
abbrev pub TellsBy : Want → Option GraphOp → List OwnCall → Told → Option ℕ → Type 0
TellsBy w None [] t client = (t ≡ told_without w) × (client ≡ None)
TellsBy w None (c ∷ calls) t client = ⊥
TellsBy w (Some o) [] t client = ⊥
TellsBy w (Some o) (c ∷ []) t client = (c.op ≡ o) × (t ≡ told_by c.reply) × (client ≡ client_by c.reply)
TellsBy w (Some o) (c ∷ d ∷ calls) t client = ⊥

abbrev pub TellsFor : Want → List OwnCall → Told → Option ℕ → Type 0
TellsFor w calls t client = TellsBy w (op_for w) calls t client

-- Memory was refused for an answer: no call was made for it, or that call, and an export that the session became a
-- client of was left again.
abbrev pub LosesBy : Option GraphOp → List OwnCall → Type 0
LosesBy o [] = Unit {0}
LosesBy o (c ∷ []) = (o ≡ Some c.op) × (client_by c.reply ≡ None)
LosesBy o (c ∷ d ∷ []) = (o ≡ Some c.op) × ((e : ℕ) × (client_by c.reply ≡ Some e) × (d.op ≡ op.Detach e))
LosesBy o (c ∷ d ∷ f ∷ calls) = ⊥

abbrev pub LosesFor : Want → List OwnCall → Type 0
LosesFor w calls = LosesBy (op_for w) calls
