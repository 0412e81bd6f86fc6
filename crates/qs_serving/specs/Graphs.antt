-- A session's own calls of the graph.
use Rattle.std.specs.Prelude.{[], ◌∷◌, ◌++◌}
use Rattle.qs_part.specs.declared.graph.GraphOp.{GraphOp}
use Rattle.qs_part.specs.declared.graph.GraphOp.TheVariants.{Find, Attach, Detach, ListExports}
use Rattle.qs_part.specs.declared.graph.GraphReply.{GraphReply}
use Rattle.qs_part.specs.declared.graph.GraphReply.TheVariants.{NoExport, Found, Crowded, Attached, NotAttached, Detached, Exports}
use Rattle.qs_part.specs.Histories.{call}
use Rattle.qs_task.specs.Books.{Book}

-- the operations that a session does for itself: it lists the exports, looks one up, becomes its client, and stops being
-- one
abbrev pub IsSessionOp : GraphOp → Type 0
IsSessionOp (Find name) = Unit {0}
IsSessionOp (Attach name) = Unit {0}
IsSessionOp (Detach e) = Unit {0}
IsSessionOp (ListExports table) = Unit {0}
IsSessionOp op = ⊥

-- the replies of the graph's table to each
abbrev pub GraphMay : GraphOp → GraphReply → Type 0
GraphMay (Find name) NoExport = Unit {0}
GraphMay (Find name) (Found info) = Unit {0}
GraphMay (Attach name) NoExport = Unit {0}
GraphMay (Attach name) Crowded = Unit {0}
GraphMay (Attach name) (Attached info) = Unit {0}
GraphMay (Detach e) NotAttached = Unit {0}
GraphMay (Detach e) Detached = Unit {0}
GraphMay (ListExports table) (Exports rows) = Unit {0}
GraphMay op reply = ⊥

-- such a call is noted at the graph, as number 0; the order tells requests' calls alone
abbrev pub graph_noted : GraphOp → GraphReply → Book → Book
graph_noted op reply book = record book { made = record book.made { graph = book.made.graph ++ call 0 op reply ∷ [] } }
