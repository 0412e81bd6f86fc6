-- What the arguments of a command ask for, and the first refusal that applies (QAPI, "block-core", "block-export").
use Rattle.std.specs.Prelude.{ℕ, Bool, true, false, if◌then◌else◌, List, codes, Option, Some, None, option_and_then, unwrap_or, Result, Ok, Err}
use Rattle.std.specs.Str.{bytes_eq}
use Rattle.serde_json.specs.Data.{Data}
use Rattle.qs_command.specs.declared.command.Command.{Command}
use Rattle.qs_command.specs.declared.command.Command.TheVariants.{AddRaw, AddThrottle, Del, ReopenRaw, ReopenThrottle, GroupAdd, GroupDel, ExportAdd, ExportDel, ListExports, ListNodes, Quit}
use Rattle.qs_qmp_arguments.specs.declared.command_name.CommandName.{CommandName}
use Rattle.qs_qmp_arguments.specs.declared.command_name.CommandName.TheVariants as names
use Rattle.qs_qmp_arguments.specs.declared.keys.ArgumentKeys.TheVariants as keys
use Rattle.qs_qmp_arguments.specs.declared.node.Node.{Node}
use Rattle.qs_qmp_arguments.specs.declared.node.Node.TheVariants as nodes
use Rattle.qs_qmp_arguments.specs.Problems.{Problem, ◌>>=◌, invalid}
use Rattle.qs_qmp_arguments.specs.Kinds.{only_object}
use Rattle.qs_qmp_arguments.specs.Arguments.{are_arguments, argument, needs, none_but, or_missing, id_at, name_at, whole_at, truth_at, choice_at, is_word_at}
use Rattle.qs_qmp_arguments.specs.Limiting.{limits_at, limits_checked}

-- ---- nodes

-- whether the driver is `raw`, else it is `throttle`
unfoldable pub is_raw : Option Data → Result Bool Problem
is_raw args = do
  raw ← choice_at (codes "driver") (codes "raw") (codes "throttle") args
  or_missing (codes "driver") raw

unfoldable pub raw_of : Bool → Option Data → Result Node Problem
raw_of again args = do
  _ ← needs (codes "node-name") args
  _ ← needs (codes "file") args
  _ ← none_but (keys.Raw again) args
  child ← id_at (codes "file") args
  name ← id_at (codes "node-name") args
  offset ← whole_at (codes "offset") args
  read_only ← truth_at (codes "read-only") args
  size ← whole_at (codes "size") args
  Ok (nodes.Raw name child (unwrap_or offset 0) size (unwrap_or read_only false))

unfoldable pub throttle_of : Bool → Option Data → Result Node Problem
throttle_of again args = do
  _ ← needs (codes "node-name") args
  _ ← needs (codes "file") args
  _ ← needs (codes "throttle-group") args
  _ ← none_but (keys.Throttle again) args
  child ← id_at (codes "file") args
  name ← id_at (codes "node-name") args
  read_only ← truth_at (codes "read-only") args
  group ← id_at (codes "throttle-group") args
  Ok (nodes.Throttle name child group (unwrap_or read_only false))

unfoldable pub node_of : Bool → Option Data → Result Node Problem
node_of again args = do
  raw ← is_raw args
  if raw then raw_of again args else throttle_of again args

abbrev pub adding : Node → Command
adding (nodes.Raw name child offset size read_only) = AddRaw name child offset size read_only
adding (nodes.Throttle name child group read_only) = AddThrottle name child group read_only

abbrev pub reopened : Node → Command
reopened (nodes.Raw name child offset size read_only) = ReopenRaw name child offset size
reopened (nodes.Throttle name child group read_only) = ReopenThrottle name child group

unfoldable pub blockdev_add : Option Data → Result Command Problem
blockdev_add args = do
  node ← node_of false args
  Ok (adding node)

unfoldable pub blockdev_del : Option Data → Result Command Problem
blockdev_del args = do
  _ ← needs (codes "node-name") args
  _ ← none_but keys.Node args
  name ← id_at (codes "node-name") args
  Ok (Del name)

-- any fault of reading within an argument is one of that argument
abbrev pub within : {A : Type 0} → List ℕ → Result A Problem → Result A Problem
within name (Ok x) = Ok x
within name (Err problem) = Err (invalid name)

abbrev pub options_of : Option Data → Result Node Problem
options_of None = Err (invalid (codes "options"))
options_of (Some d) = within (codes "options") (node_of true (Some d))

unfoldable pub blockdev_reopen : Option Data → Result Command Problem
blockdev_reopen args = do
  _ ← needs (codes "options") args
  _ ← none_but keys.Reopen args
  node ← options_of (option_and_then only_object (argument (codes "options") args))
  Ok (reopened node)

-- ---- groups and exports

unfoldable pub object_add : Option Data → Result Command Problem
object_add args = do
  _ ← needs (codes "qom-type") args
  _ ← needs (codes "id") args
  _ ← none_but keys.ObjectAdd args
  id ← id_at (codes "id") args
  limits ← limits_at args
  _ ← is_word_at (codes "qom-type") (codes "throttle-group") args
  limits ← limits_checked limits
  Ok (GroupAdd id limits)

unfoldable pub object_del : Option Data → Result Command Problem
object_del args = do
  _ ← needs (codes "id") args
  _ ← none_but keys.Object args
  id ← id_at (codes "id") args
  Ok (GroupDel id)

unfoldable pub export_add : Option Data → Result Command Problem
export_add args = do
  _ ← needs (codes "type") args
  _ ← needs (codes "id") args
  _ ← needs (codes "node-name") args
  _ ← none_but keys.ExportAdd args
  id ← id_at (codes "id") args
  name ← name_at (codes "name") args
  node ← id_at (codes "node-name") args
  _ ← is_word_at (codes "type") (codes "nbd") args
  writable ← truth_at (codes "writable") args
  share_write ← choice_at (codes "x-share") (codes "all") (codes "read") args
  Ok (ExportAdd id (unwrap_or name node) node (unwrap_or writable false) (unwrap_or share_write true))

unfoldable pub export_del : Option Data → Result Command Problem
export_del args = do
  _ ← needs (codes "id") args
  _ ← none_but keys.ExportDel args
  id ← id_at (codes "id") args
  hard ← choice_at (codes "mode") (codes "hard") (codes "safe") args
  Ok (ExportDel id (unwrap_or hard false))

-- a command without arguments
unfoldable pub plain : Command → Option Data → Result Command Problem
plain command args = do
  _ ← none_but keys.Nothing args
  Ok command

-- ---- by their names

-- the commands after the negotiation
abbrev pub command_named : List ℕ → Option CommandName
command_named name =
    if bytes_eq name (codes "blockdev-add") then Some names.BlockdevAdd
    else if bytes_eq name (codes "blockdev-del") then Some names.BlockdevDel
    else if bytes_eq name (codes "blockdev-reopen") then Some names.BlockdevReopen
    else if bytes_eq name (codes "object-add") then Some names.ObjectAdd
    else if bytes_eq name (codes "object-del") then Some names.ObjectDel
    else if bytes_eq name (codes "block-export-add") then Some names.BlockExportAdd
    else if bytes_eq name (codes "block-export-del") then Some names.BlockExportDel
    else if bytes_eq name (codes "query-block-exports") then Some names.QueryBlockExports
    else if bytes_eq name (codes "query-named-block-nodes") then Some names.QueryNamedBlockNodes
    else if bytes_eq name (codes "quit") then Some names.Quit
    else None

-- the command with its arguments
abbrev pub command_by : CommandName → Option Data → Result Command Problem
command_by names.BlockdevAdd args = blockdev_add args
command_by names.BlockdevDel args = blockdev_del args
command_by names.BlockdevReopen args = blockdev_reopen args
command_by names.ObjectAdd args = object_add args
command_by names.ObjectDel args = object_del args
command_by names.BlockExportAdd args = export_add args
command_by names.BlockExportDel args = export_del args
command_by names.QueryBlockExports args = plain ListExports args
command_by names.QueryNamedBlockNodes args = plain ListNodes args
command_by names.Quit args = plain Quit args

-- the command with its arguments, which are an object
unfoldable pub command_with : CommandName → Option Data → Result Command Problem
command_with name args = do
  _ ← are_arguments args
  command_by name args
