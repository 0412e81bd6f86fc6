-- What a QMP message asks for, and the first refusal that applies (QMP specification).
use Rattle.std.specs.Prelude.{◌≡◌, ℕ, Bool, true, false, if◌then◌else◌, List, ◌++◌, codes, Option, Some, None, option_map, option_and_then, Result, Ok, Err, ⊤, string_bytes}
use Rattle.std.specs.Str.{bytes_eq}
use Rattle.serde_json.specs.Data.{Data}
use Rattle.serde_json.specs.Find.{get, as_str}
use Rattle.serde_json.specs.View.{view}
use Rattle.serde_json.specs.Written.{has_float}
use Rattle.qs_qmp_arguments.specs.declared.command_name.CommandName.{CommandName}
use Rattle.qs_qmp_arguments.specs.declared.fault.Class.TheVariants.{CommandNotFound}
use Rattle.qs_qmp_arguments.specs.declared.keys.ArgumentKeys.TheVariants as keys
use Rattle.qs_qmp_arguments.specs.Problems.{Problem, ◌>>=◌, generic, invalid}
use Rattle.qs_qmp_arguments.specs.Kinds.{is_empty_list}
use Rattle.qs_qmp_arguments.specs.Arguments.{are_arguments, argument, first_not, is_key, keys_in, none_but}
use Rattle.qs_qmp_arguments.specs.Commands.{command_named, command_with}
use Rattle.qs_qmp.specs.declared.asked.QmpAsked.{QmpAsked}
use Rattle.qs_qmp.specs.declared.asked.QmpCommand.{QmpCommand}
use Rattle.qs_qmp.specs.declared.asked.QmpCommand.TheVariants.{Capabilities, Job}
use Rattle.qs_qmp.specs.declared.fault.QmpFault.{QmpFault}
use Rattle.qs_qmp.specs.declared.fault.QmpFault.TheVariants as faults

abbrev pub not_found : List ℕ → Problem
not_found name = record { class = CommandNotFound; desc = codes "The command " ++ name ++ codes " has not been found" }

abbrev pub or_not_found : List ℕ → Option CommandName → Result CommandName Problem
or_not_found name None = Err (not_found name)
or_not_found name (Some command) = Ok command

unfoldable pub job_named : List ℕ → Option Data → Result QmpCommand Problem
job_named name args = do
  named ← or_not_found name (command_named name)
  command ← command_with named args
  Ok (Job command)

-- nothing is enabled
abbrev pub enables_none : Option Data → Result ⊤ Problem
enables_none None = Ok tt
enables_none (Some d) = if is_empty_list d then Ok tt else Err (invalid (codes "enable"))

abbrev pub not_negotiated : Problem
not_negotiated = record { class = CommandNotFound; desc = codes "Expecting capabilities negotiation" }

abbrev pub is_negotiation : List ℕ → Result ⊤ Problem
is_negotiation name = if bytes_eq name (codes "qmp_capabilities") then Ok tt else Err not_negotiated

unfoldable pub negotiation : List ℕ → Option Data → Result QmpCommand Problem
negotiation name args = do
  _ ← is_negotiation name
  _ ← are_arguments args
  _ ← none_but keys.Capabilities args
  _ ← enables_none (argument (codes "enable") args)
  Ok Capabilities

abbrev pub or_no_command : Option (List ℕ) → Result (List ℕ) Problem
or_no_command None = Err (generic (codes "Member 'execute' is missing"))
or_no_command (Some name) = Ok name

abbrev pub is_member : Option (List ℕ) → Result ⊤ Problem
is_member None = Ok tt
is_member (Some k) = Err (generic (codes "Member '" ++ k ++ codes "' is unexpected"))

unfoldable pub command_of : Bool → Data → Result QmpCommand Problem
command_of negotiated d = do
  name ← or_no_command (option_and_then as_str (get (codes "execute") d))
  _ ← is_member (first_not (λ k. is_key keys.Message k) (keys_in (Some d)))
  if negotiated then job_named name (get (codes "arguments") d) else negotiation name (get (codes "arguments") d)

-- ---- with the id

-- what a message asks for, and its id
pub record Asked : Type 0 where
  pub command : QmpCommand
  pub id : Option Data

-- a refusal, and the id that its answer has
pub record Refusing : Type 0 where
  pub problem : Problem
  pub id : Option Data

abbrev pub asked_with_id : Option Data → Result QmpCommand Problem → Result Asked Refusing
asked_with_id id (Ok command) = Ok (record { command = command; id = id })
asked_with_id id (Err problem) = Err (record { problem = problem; id = id })

-- an id can be written back where its numbers are whole
abbrev pub is_fit : Option Data → Bool
is_fit None = true
is_fit (Some d) = if has_float d then false else true

abbrev pub without_id : List ℕ → Result Asked Refusing
without_id desc = Err (record { problem = generic desc; id = None })

abbrev pub asked_of : Bool → Data → Result Asked Refusing
asked_of negotiated d =
    if is_fit (get (codes "id") d) then asked_with_id (get (codes "id") d) (command_of negotiated d)
    else without_id (codes "Invalid parameter 'id'")

-- JSON or none
abbrev pub asked_by : Bool → Option Data → Result Asked Refusing
asked_by negotiated (Some d) = asked_of negotiated d
asked_by negotiated None = without_id (codes "Invalid JSON")

-- what the code answers is what is read; want of memory may stand in its place
abbrev pub Answers : Result QmpAsked QmpFault → Result Asked Refusing → Type 0
Answers (Ok a) read = read ≡ Ok (record { command = a.command; id = option_map view a.id })
Answers (Err faults.Memory) read = Unit {0}
Answers (Err (faults.Refused class desc id)) read =
    read ≡ Err (record { problem = record { class = class; desc = string_bytes desc }; id = option_map view id })

-- the id of the answer can be written
abbrev pub HasFitId : Result QmpAsked QmpFault → Type 0
HasFitId (Ok a) = is_fit (option_map view a.id) ≡ true
HasFitId (Err faults.Memory) = Unit {0}
HasFitId (Err (faults.Refused class desc id)) = is_fit (option_map view id) ≡ true
