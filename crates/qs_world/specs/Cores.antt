-- The core in the program, as contracts see it, and what a step of a request does.
use Rattle.std.specs.Prelude.{◌≡◌, ◌↔◌, ℕ, Some}
use Rattle.qs_outside.specs.Blocks.{Seen}
use Rattle.qs_part.specs.declared.event.Actor.TheVariants.{Request as ARequest}
use Rattle.qs_part.specs.declared.event.Event.{Event}
use Rattle.qs_part.specs.declared.event.Event.TheVariants.{Step, Ask}
use Rattle.qs_part.specs.declared.event.Outcome.{Outcome}
use Rattle.qs_part.specs.declared.event.Outcome.TheVariants.{NotNext}
use Rattle.qs_model.specs.Acts.{Element}
use Rattle.qs_model.specs.Events.{IsEvent, outcome_of}
use Rattle.qs_world.specs.declared.inner.Core.{Core}
use Rattle.qs_world.specs.Events.{Does, HasCause, IsAsPlanned, IsInside, IsNotNext, StepsTo}
use Rattle.qs_world.specs.Sound.{IsSound}
use Rattle.qs_world.specs.Values.{WorldValue}

abbrev pub value_of : {D : Type 0} → Core D → WorldValue D
value_of c = record {
  shape = c.shape;
  next = c.next;
  requests = c.requests.items;
  sessions = c.sessions.items;
  graph = c.graph;
  tracker = c.tracker;
  stripes = c.stripes.items;
}

-- a step of request r, by any reading of the clock
pub record StepsRequest {D : Type 0} (seen : D → Seen) (old : WorldValue D) (r : ℕ) (outcome : Outcome)
    (new : WorldValue D) : Type 0 where
  pub element : Element
  pub answers_event : (now : ℕ) → IsEvent (Step (ARequest r) now) element
  pub outcome_is : outcome_of old.shape.align element ≡ Some outcome
  pub does : Does seen old element new
  pub as_planned : IsAsPlanned seen old element
  pub inside : IsInside old.shape element
  pub shape_kept : new.shape ≡ old.shape
  pub cause : HasCause seen old outcome new
  pub sound : IsSound seen new

-- What an event does: a step of the model, or nothing where it can't come or memory was refused; a fault
-- has its cause, and the core stays sound.
pub record Handles {D : Type 0} (seen : D → Seen) (old : WorldValue D) (event : Event) (outcome : Outcome)
    (new : WorldValue D) : Type 0 where
  pub step : StepsTo seen old event outcome new
  pub next : (outcome ≡ NotNext) ↔ IsNotNext old event
  pub cause : HasCause seen old outcome new
  pub sound : IsSound seen new

-- an event that brings no body
abbrev pub IsPlain : Event → Type 0
IsPlain (Ask session ask body) = ⊥
IsPlain _ = Unit {0}
