-- The operations of the graph: which answer may come, and what it leaves.
use Rattle.std.specs.Prelude.{◌≡◌, ◌≢◌, ℕ, ◌+◌, ◌-◌, ◌<◌, ◌≤◌, Bool, true, false, ◌&&◌, List, Option, Some, None, option_map, position, replicate}
use Rattle.std.specs.List.{slice_set}
use Rattle.qs_part.specs.declared.graph.ExportInfo.{ExportInfo}
use Rattle.qs_part.specs.declared.graph.Route.{Route as Way}
use Rattle.qs_part.specs.declared.graph.User.TheVariants.{Export as ExportUser}
use Rattle.qs_part.specs.declared.graph.GraphOp.{GraphOp}
use Rattle.qs_part.specs.declared.graph.GraphOp.TheVariants.{ExportAdd, Find, Attach, Detach, Route}
use Rattle.qs_part.specs.declared.graph.GraphReply.{GraphReply}
use Rattle.qs_part.specs.declared.graph.GraphReply.TheVariants.{Duplicate, NoNode, Full, Added, ReadOnly, Conflict, NoExport, Found, Crowded, Attached, NotAttached, Detached, Shutting, Routed}
use Rattle.qs_graph.specs.declared.export.Export.{Export}
use Rattle.qs_graph.specs.Exports.{clients_of, clients_counted, export_at, first_against, found_at, has_alike, is_vacant, new_export, writable_of}

-- The graph: the bytes of the image, the name of the file node over it, whether that is read-only,
-- and the 64 places of exports.
pub record GraphValue : Type 0 where
  pub size : ℕ
  pub file : List ℕ
  pub read_only : Bool
  pub places : List (Option Export)

-- a file node without exports
abbrev pub fresh : ℕ → List ℕ → Bool → GraphValue
fresh size file read_only = record { size = size; file = file; read_only = read_only; places = replicate 64 None }

-- the operations that it does; it has no nodes but the file node, and lists nothing
abbrev pub Fits : ℕ → GraphOp → Type 0
Fits size (ExportAdd id name node writable share_write) = Unit {0}
Fits size (Find name) = Unit {0}
Fits size (Attach name) = Unit {0}
Fits size (Detach e) = Unit {0}
Fits size (Route e) = Unit {0}
Fits size _ = ⊥

-- the way from an export to the image: the whole image, and no throttle group
abbrev pub route_of : ℕ → Export → Way
route_of size x = record {
  offset = 0;
  size = size;
  writable = x.writable;
  groups = replicate 8 (0, 0);
  count = 0;
}

-- what a client learns of the export at place e
abbrev pub info_at : GraphValue → ℕ → ExportInfo
info_at v e = record { e = e; size = v.size; writable = writable_of (export_at v.places e) }

-- place e is now so
abbrev pub export_placed : GraphValue → ℕ → Option Export → GraphValue
export_placed v e place = record {
  size = v.size;
  file = v.file;
  read_only = v.read_only;
  places = slice_set v.places e place;
}

-- what an answer leaves
abbrev pub after : GraphValue → GraphOp → GraphReply → GraphValue
after v (ExportAdd id name node writable share_write) (Added e) = export_placed v e
    (Some (new_export id name writable share_write))
after v (Attach name) (Attached info) =
    export_placed v info.e (clients_counted (export_at v.places info.e) (clients_of (export_at v.places info.e) + 1))
after v (Detach e) Detached = export_placed v e
    (clients_counted (export_at v.places e) (clients_of (export_at v.places e) - 1))
after v _ _ = v

-- no standing export has the id or the name of a new one
abbrev pub IsNew : GraphValue → Export → Type 0
IsNew v x = position (has_alike x.id x.name) v.places ≡ None

-- that, and the new one is over the file node
abbrev pub IsOverFile : GraphValue → Export → List ℕ → Type 0
IsOverFile v x node = IsNew v x × (node ≡ v.file)

-- that, and it isn't writable where the file node is read-only
abbrev pub IsPermitted : GraphValue → Export → List ℕ → Type 0
IsPermitted v x node = IsOverFile v x node × ((x.writable && v.read_only) ≡ false)

-- that, and it conflicts with no standing one
abbrev pub IsShared : GraphValue → Export → List ℕ → Type 0
IsShared v x node = IsPermitted v x node × (first_against v.places x ≡ None)

-- The answers to a new export over a node. Users of the file node are the standing exports, in the
-- order in which they were made, and the new one last. No two standing ones conflict, so the second of
-- the first pair of users that conflicts is the new one (the law first_pair). All memory is taken when the graph is
-- made, so that want of it is never answered.
abbrev pub MayAdd : GraphValue → Export → List ℕ → GraphReply → Type 0
MayAdd v x node (Duplicate e) = position (has_alike x.id x.name) v.places ≡ Some e
MayAdd v x node (NoNode name) = IsNew v x × (node ≢ v.file) × (name ≡ node)
MayAdd v x node (ReadOnly name) = IsOverFile v x node × ((x.writable && v.read_only) ≡ true) × (name ≡ v.file)
MayAdd v x node (Conflict (ExportUser first) (ExportUser new)) =
    IsPermitted v x node × (option_map (λ (y : Export). y.id) (first_against v.places x) ≡ Some first) × (new ≡ x.id)
MayAdd v x node Full = IsShared v x node × (position is_vacant v.places ≡ None)
MayAdd v x node (Added e) = IsShared v x node × (position is_vacant v.places ≡ Some e)
MayAdd v x node _ = ⊥

-- the answers to an operation
abbrev pub May : GraphValue → GraphOp → GraphReply → Type 0
May v (ExportAdd id name node writable share_write) reply = MayAdd v (new_export id name writable share_write) node
    reply
May v (Find name) NoExport = found_at v.places name ≡ None
May v (Find name) (Found info) = (found_at v.places name ≡ Some info.e) × (info ≡ info_at v info.e)
May v (Attach name) NoExport = found_at v.places name ≡ None
May v (Attach name) Crowded =
    (e : ℕ) × ((found_at v.places name ≡ Some e) × (1024 ≤ clients_of (export_at v.places e)))
May v (Attach name) (Attached info) =
    (found_at v.places name ≡ Some info.e) × (info ≡ info_at v info.e) × (clients_of (export_at v.places info.e) < 1024)
May v (Detach e) NotAttached = clients_of (export_at v.places e) ≡ 0
May v (Detach e) Detached = 0 < clients_of (export_at v.places e)
May v (Route e) Shutting = export_at v.places e ≡ None
May v (Route e) (Routed way) = (x : Export) × ((export_at v.places e ≡ Some x) × (way ≡ route_of v.size x))
May v _ _ = ⊥

-- the graph answers an operation, and is then what the answer leaves
abbrev pub answers : GraphValue → GraphOp → GraphReply → GraphValue → Type 0
answers old op reply new = May old op reply × (new ≡ after old op reply)
