-- What the monitor writes: messages of compact JSON with keys in rising order of bytes, each with CR LF behind it.
use Rattle.std.specs.Prelude.{◌≡◌, ℕ, ◌/◌, ◌%◌, Bool, true, false, List, [], ◌∷◌, ◌++◌, map, codes, decimal, Option, Some, None, option_map, string_bytes}
use Rattle.serde_json.specs.Data.{Data, boolean, number, string, array, object, unsigned, Members, no_members, member, put}
use Rattle.serde_json.specs.View.{items_of, view}
use Rattle.serde_json.specs.Written.{compact_text}
use Rattle.qs_part.specs.declared.graph.User.{User}
use Rattle.qs_part.specs.declared.graph.User.TheVariants as users
use Rattle.qs_command.specs.declared.end.JobEnd.{JobEnd}
use Rattle.qs_command.specs.declared.end.JobEnd.TheVariants as ends
use Rattle.qs_command.specs.declared.end.Refusal.{Refusal}
use Rattle.qs_command.specs.declared.end.Refusal.TheVariants as refusals
use Rattle.qs_part.specs.declared.table.Driver.{Driver}
use Rattle.qs_part.specs.declared.table.Driver.TheVariants.{File, Raw, Throttle}
use Rattle.qs_part.specs.declared.table.NodeRow.{NodeRow}
use Rattle.qs_part.specs.declared.table.ExportRow.{ExportRow}
use Rattle.qs_qmp_arguments.specs.declared.fault.Class.{Class}
use Rattle.qs_qmp_arguments.specs.declared.fault.Class.TheVariants.{GenericError, CommandNotFound}
use Rattle.qs_qmp.specs.declared.fault.QmpFault.{QmpFault}
use Rattle.qs_qmp.specs.declared.fault.QmpFault.TheVariants as faults
use Rattle.qs_qmp.specs.Reading.{is_fit}

abbrev pub message : Data → List ℕ
message d = compact_text d ++ 13 ∷ 10 ∷ []

-- the members with the id of the message that is answered
abbrev pub with_id : Option Data → Members → Members
with_id None ms = ms
with_id (Some d) ms = put (codes "id") d ms

abbrev pub answer_data : List ℕ → Data → Option Data → Data
answer_data key d id = object (with_id id (member key d no_members))

abbrev pub returned : Data → Option Data → List ℕ
returned d id = message (answer_data (codes "return") d id)

abbrev pub class_text : Class → List ℕ
class_text GenericError = codes "GenericError"
class_text CommandNotFound = codes "CommandNotFound"

abbrev pub error : Class → List ℕ → Data
error class desc = object (member (codes "class") (string (class_text class))
    (member (codes "desc") (string desc) no_members))

abbrev pub failed : Class → List ℕ → Option Data → List ℕ
failed class desc id = message (answer_data (codes "error") (error class desc) id)

-- ---- what a query lists

abbrev pub driver_text : Driver → List ℕ
driver_text File = codes "file"
driver_text Raw = codes "raw"
driver_text Throttle = codes "throttle"

abbrev pub node : NodeRow → Data
node row = object
    (member (codes "drv") (string (driver_text row.driver))
    (member (codes "node-name") (string row.name)
    (member (codes "ro") (boolean row.read_only) no_members)))

abbrev pub export_data : ExportRow → Data
export_data row = object
    (member (codes "id") (string row.id)
    (member (codes "node-name") (string row.node)
    (member (codes "shutting-down") (boolean row.shutting)
    (member (codes "type") (string (codes "nbd")) no_members))))

abbrev pub nodes : List NodeRow → Data
nodes rows = array (items_of (map node rows))

abbrev pub exports : List ExportRow → Data
exports rows = array (items_of (map export_data rows))

-- ---- the event of a deleted export, at a reading in nanoseconds

abbrev pub timestamp : ℕ → Data
timestamp now = object
    (member (codes "microseconds") (number (unsigned (now % 1_000_000_000 / 1_000)))
    (member (codes "seconds") (number (unsigned (now / 1_000_000_000))) no_members))

abbrev pub named_data : List ℕ → Data
named_data name = object (member (codes "id") (string name) no_members)

abbrev pub deletion : List ℕ → ℕ → Data
deletion name now = object
    (member (codes "data") (named_data name)
    (member (codes "event") (string (codes "BLOCK_EXPORT_DELETED"))
    (member (codes "timestamp") (timestamp now) no_members)))

-- ---- refusals

abbrev pub user_text : User → List ℕ
user_text (users.Node name) = codes "node '" ++ name ++ codes "'"
user_text (users.Export id) = codes "export '" ++ id ++ codes "'"

abbrev pub refusal_text : Refusal → List ℕ
refusal_text (refusals.Duplicate name) = codes "Duplicate name '" ++ name ++ codes "'"
refusal_text (refusals.NoNode name) = codes "Node '" ++ name ++ codes "' not found"
refusal_text (refusals.NoGroup name) = codes "Group '" ++ name ++ codes "' not found"
refusal_text (refusals.NoExport name) = codes "Export '" ++ name ++ codes "' not found"
refusal_text (refusals.OutOfRange name size) = codes "Node '" ++ name ++ codes "' has " ++ decimal size
    ++ codes " bytes"
refusal_text refusals.Deep = codes "Too many throttle nodes"
refusal_text refusals.Full = codes "Table is full"
refusal_text (refusals.Root name) = codes "Node '" ++ name ++ codes "' is the image"
refusal_text (refusals.NodeInUse name user) = codes "Node '" ++ name ++ codes "' is in use by " ++ user_text user
refusal_text (refusals.GroupInUse name user) = codes "Group '" ++ name ++ codes "' is in use by " ++ user_text user
refusal_text (refusals.OtherKind name) = codes "Node '" ++ name ++ codes "' has another driver"
refusal_text (refusals.OtherFile name) = codes "Node '" ++ name ++ codes "' has another file"
refusal_text (refusals.ReadOnly name) = codes "Node '" ++ name ++ codes "' is read-only"
refusal_text (refusals.Conflict one other) = codes "Permission conflict between " ++ user_text one ++ codes " and "
    ++ user_text other
refusal_text (refusals.Connected name clients) = codes "Export '" ++ name ++ codes "' has " ++ decimal clients
    ++ codes " client(s)"

-- ---- answers

abbrev pub empty_object : Data
empty_object = object no_members

abbrev pub quit_text : Bool → Option Data → List ℕ
quit_text true id = returned empty_object id
quit_text false id = failed GenericError (codes "Flush failed") id

abbrev pub end_text : JobEnd → Option Data → ℕ → List ℕ
end_text ends.Fine id now = returned empty_object id
end_text (ends.Nodes rows) id now = returned (nodes rows) id
end_text (ends.Exports rows) id now = returned (exports rows) id
end_text (ends.Deleted name) id now = returned empty_object id ++ message (deletion name now)
end_text (ends.Quit synced) id now = quit_text synced id
end_text (ends.Refused refusal) id now = failed GenericError (refusal_text refusal) id
end_text ends.Memory id now = failed GenericError (codes "Out of memory") id

-- a refusal whose id can be written
abbrev pub CanTellFault : QmpFault → Type 0
CanTellFault (faults.Refused class desc id) = is_fit (option_map view id) ≡ true
CanTellFault faults.Memory = ⊥

abbrev pub fault_text : QmpFault → List ℕ
fault_text (faults.Refused class desc id) = failed class (string_bytes desc) (option_map view id)
fault_text faults.Memory = []

-- ---- the law

-- no message begins another
abbrev pub AreApart : Type 0
AreApart = (d e : Data) (xs ys : List ℕ) → message d ++ xs ≡ message e ++ ys → (message d ≡ message e) × (xs ≡ ys)
