-- A run of a request's steps that is one call of a stripe.
use Rattle.std.specs.Prelude.{◌≡◌, ◌↔◌, ℕ, List, map}
use Rattle.qs_outside.specs.Blocks.{Seen}
use Rattle.qs_outside.specs.Runs.{EndsAt}
use Rattle.qs_part.specs.declared.event.Actor.TheVariants.{Request as ARequest}
use Rattle.qs_part.specs.declared.event.Event.{Event}
use Rattle.qs_part.specs.declared.event.Event.TheVariants.{Step}
use Rattle.qs_part.specs.declared.event.Note.{Note}
use Rattle.qs_part.specs.declared.event.Outcome.{Outcome}
use Rattle.qs_part.specs.declared.event.Outcome.TheVariants.{NotNext, Memory, Moved}
use Rattle.qs_request.specs.RunSteps.{IsDone}
use Rattle.qs_stripe.specs.Table.{StripeState}
use Rattle.qs_world.specs.Events.{HasCause, IsNotNext, Steps}
use Rattle.qs_world.specs.Sound.{IsSound}
use Rattle.qs_world.specs.Values.{WorldValue}

-- a stripe by what its disk means
abbrev pub stripe_meant : {D : Type 0} → (D → Seen) → StripeState D → StripeState Seen
stripe_meant seen s = record { disk = seen s.disk; places = s.places; clean = s.clean }

-- the core by what its disks mean: all that a contract sees of it
abbrev pub meant : {D : Type 0} → (D → Seen) → WorldValue D → WorldValue Seen
meant seen w = record {
  shape = w.shape;
  next = w.next;
  requests = w.requests;
  sessions = w.sessions;
  graph = w.graph;
  tracker = w.tracker;
  stripes = map (stripe_meant seen) w.stripes;
}

-- one step of the model that answers the event so, and whose fault has its cause, over disks that are their meaning
abbrev pub OneStep : Event → Outcome → WorldValue Seen → WorldValue Seen → Type 0
OneStep event outcome old new = Steps (λ d. d) old event outcome new × HasCause (λ d. d) old outcome new

-- such a step, whose operation was done
pub record GoesOn (event : Event) (old new : WorldValue Seen) : Type 0 where
  pub note : Note
  pub step : OneStep event (Moved note) old new
  pub done : IsDone note.reply

-- The event comes some times, one after the other, each a step of the model: the last one is answered by the outcome,
-- and those before it were done.
abbrev pub Repeats : {D : Type 0} → (D → Seen) → WorldValue D → Event → Outcome → WorldValue D → Type 0
Repeats seen old event outcome new = (n : ℕ) × EndsAt (λ i. GoesOn event) (λ i. OneStep event outcome) n
    (meant seen old) (meant seen new)

-- the outcome of an event that came
abbrev pub IsStepOutcome : Outcome → Type 0
IsStepOutcome NotNext = ⊥
IsStepOutcome Memory = ⊥
IsStepOutcome _ = Unit {0}

-- it comes some times, or it can't come now, and all is as before
abbrev pub RepeatsTo : {D : Type 0} → (D → Seen) → WorldValue D → Event → Outcome → WorldValue D → Type 0
RepeatsTo seen old event NotNext new = new ≡ old
RepeatsTo seen old event Memory new = ⊥
RepeatsTo seen old event outcome new = Repeats seen old event outcome new

-- steps of request r, by any reading of the clock
pub record RepeatsRequest {D : Type 0} (seen : D → Seen) (old : WorldValue D) (r : ℕ) (outcome : Outcome)
    (new : WorldValue D) : Type 0 where
  pub repeats : (now : ℕ) → Repeats seen old (Step (ARequest r) now) outcome new
  pub comes : IsStepOutcome outcome
  pub sound : IsSound seen new

-- what a request does where its run of whole blocks is done as one call
pub record RunsRequest {D : Type 0} (seen : D → Seen) (old : WorldValue D) (r now : ℕ) (outcome : Outcome)
    (new : WorldValue D) : Type 0 where
  pub repeats : RepeatsTo seen old (Step (ARequest r) now) outcome new
  pub next : (outcome ≡ NotNext) ↔ IsNotNext old (Step (ARequest r) now)
  pub sound : IsSound seen new
