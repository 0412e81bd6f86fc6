-- Histories of a graph.
use Rattle.std.specs.Prelude.{◌≡◌, ◌≢◌, ℕ, Bool, true, false, List, Some, IsTrue}
use Rattle.qs_part.specs.declared.graph.GraphOp.{GraphOp}
use Rattle.qs_part.specs.declared.graph.GraphReply.{GraphReply}
use Rattle.qs_part.specs.Histories.{Call, lawful, StandsFor}
use Rattle.qs_graph.specs.declared.export.Export.{Export}
use Rattle.qs_graph.specs.declared.export.Right.{Right}
use Rattle.qs_graph.specs.Exports.{export_at, shares, takes}
use Rattle.qs_graph.specs.Table.{GraphValue, fresh, Fits, answers}

-- a call that may be: the operation fits, the answer may come, and the size of the image stays
abbrev pub lawful_call : GraphValue → GraphOp → GraphReply → GraphValue → Type 0
lawful_call = lawful (λ (v : GraphValue). v.size) Fits answers

-- a graph stands for a history of a new one, over an image of this size and a file node of this name
abbrev pub StandsForFresh : ℕ → List ℕ → Bool → List (Call GraphOp GraphReply) → GraphValue → Type 0
StandsForFresh size file read_only cs v = StandsFor lawful_call (fresh size file read_only) cs v

-- this export stands at place e
abbrev pub StandsAt : GraphValue → ℕ → Export → Type 0
StandsAt v e x = export_at v.places e ≡ Some x

-- The graph is allowed: each export takes only what every other one shares, and none may be written
-- over a read-only file.
pub record IsAllowed (v : GraphValue) : Type 0 where
  pub shared : (d e : ℕ) (x y : Export) (right : Right) → d ≢ e → StandsAt v d x → StandsAt v e y →
      IsTrue (takes x right) → IsTrue (shares y right)
  pub writable : (e : ℕ) (x : Export) → StandsAt v e x → v.read_only ≡ true → x.writable ≡ false

-- the same export, but for the number of its clients
abbrev pub SameExport : Export → Export → Type 0
SameExport x y = y ≡ record x { clients = y.clients }
