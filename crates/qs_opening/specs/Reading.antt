-- What was read in a handshake is what its calls took.
use Rattle.std.specs.Prelude.{◌≡◌, ℕ, Bool, List, [], ◌∷◌, ◌++◌, Some, Result}
use Rattle.std.specs.List.{flat_map}
use Rattle.qs_bytes.specs.Numbers.{number32}
use Rattle.qs_outside.specs.Blocks.{Seen}
use Rattle.qs_outside.specs.declared.stream.Failed.{Failed}
use Rattle.qs_graph.specs.Table.{GraphValue}
use Rattle.qs_nbd_handshake.specs.declared.event.HandEvent.TheVariants as event
use Rattle.qs_nbd_handshake.specs.Phases.{Reader, opening_reader, wish_in}
use Rattle.qs_nbd_handshake.specs.Sessions.{HandshakeCall, Took, Answered, CallsLead, taken_by}
use Rattle.qs_nbd_handshake.specs.Wishes.{want_of}
use Rattle.qs_stream.specs.Flows.{Flow}
use Rattle.qs_world.specs.Values.{WorldValue}
use Rattle.qs_opening.specs.declared.turn.Opened.{Opened}
use Rattle.qs_opening.specs.Openings.{Agrees}
use Rattle.qs_opening.specs.Options.{told_for}

-- the flags were taken
abbrev pub flags_call : List ℕ → HandshakeCall
flags_call flags = Took flags (Some (event.Flags (number32 flags 0)))

-- an option was taken, and what the exports tell was told for it
abbrev pub option_calls : GraphValue → List ℕ → List HandshakeCall
option_calls graph option = Took option (Some (event.Wanted (want_of (wish_in option))))
    ∷ (Answered (told_for graph option) ∷ [])

-- Calls of a handshake lead from its opening, one after the other: they took the flags, each option and the rest, in
-- this order.
pub record IsRead (graph : GraphValue) (flags : List ℕ) (options : List (List ℕ)) (rest : List ℕ) : Type 0 where
  pub behind : List HandshakeCall
  pub new : Reader
  pub leads : CallsLead opening_reader (flags_call flags ∷ (flat_map (option_calls graph) options ++ behind)) new
  pub rest_is : flat_map taken_by behind ≡ rest

-- every handshake is read so, as far as it came
abbrev pub ReadsHandshakes : {D : Type 0} → (D → Seen) → Type 0
ReadsHandshakes {D} seen =
    (session : ℕ) → (writable : Bool) → (budget : ℕ) → (before after : Flow) → (old new : WorldValue D) →
    (result : Result Opened Failed) →
    (agrees : Agrees {E = Failed} seen session writable budget before old result after new) →
    IsRead old.graph agrees.flags agrees.options agrees.rest
