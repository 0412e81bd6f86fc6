-- The steps of one actor, up to the first one that doesn't let it go on.
use Rattle.std.specs.Prelude.{◌≡◌, Bool, true, false, List, [], ◌∷◌, ◌++◌, All}
use Rattle.qs_part.specs.declared.event.Event.{Event}
use Rattle.qs_part.specs.declared.event.NoteReply.{NoteReply}
use Rattle.qs_part.specs.declared.event.NoteReply.TheVariants as reply
use Rattle.qs_part.specs.declared.event.Outcome.{Outcome}
use Rattle.qs_part.specs.declared.event.Outcome.TheVariants as outcome
use Rattle.qs_part.specs.declared.event.StripeNote.TheVariants as stripe
use Rattle.qs_part.specs.declared.tracker.TrackerReply.TheVariants as tracker
use Rattle.qs_part.specs.declared.event.GraphNote.{GraphNote}
use Rattle.qs_part.specs.declared.event.GraphNote.TheVariants as graph
use Rattle.qs_outside.specs.Blocks.{Seen}
use Rattle.qs_world.specs.Running.{meant}
use Rattle.qs_world.specs.Values.{WorldValue}
use Rattle.qs_calls.specs.Calls.{Call, Happened, Plays}

-- an answer of the graph to a request
abbrev pub is_way : GraphNote → Bool
is_way (graph.Routed route) = true
is_way graph.Shutting = true
is_way other = false

-- An answer of a part that lets its actor go on: none that leaves the actor as it was, and no Detach.
abbrev pub moves_on : NoteReply → Bool
moves_on (reply.Tracker tracker.Quiesced) = false
moves_on (reply.Tracker tracker.Full) = false
moves_on (reply.Tracker (tracker.NotYet n)) = false
moves_on (reply.Tracker tracker.Strange) = false
moves_on (reply.Stripe (stripe.HeldBy k)) = false
moves_on (reply.Stripe (stripe.Taken b)) = false
moves_on (reply.Stripe stripe.NotHeld) = false
moves_on (reply.Graph answer) = is_way answer
moves_on other = true

-- the outcome isn't the last of a run
abbrev pub goes_on : Outcome → Bool
goes_on (outcome.Moved note) = moves_on note.reply
goes_on other = false

-- a call of this event that isn't the last of a run
pub record GoesOn (made : Event) (c : Call) : Type 0 where
  pub outcome : Outcome
  pub is : c ≡ Happened made outcome
  pub on : goes_on outcome ≡ true

-- a run of one actor: it goes on up to its last step
pub record RunsOut (made : Event) (calls : List Call) (last : Outcome) : Type 0 where
  pub front : List Call
  pub on : All (GoesOn made) front
  pub whole : calls ≡ front ++ Happened made last ∷ []
  pub ends : goes_on last ≡ false

-- the steps of one actor up to its last one, over disks that are their meaning: calls of the core, one behind the other
pub record RanOut {D : Type 0} (seen : D → Seen) (w : WorldValue D) (made : Event) (last : Outcome)
    (w' : WorldValue D) : Type 0 where
  pub calls : List Call
  pub plays : Plays (λ d. d) (meant seen w) calls (meant seen w')
  pub out : RunsOut made calls last
