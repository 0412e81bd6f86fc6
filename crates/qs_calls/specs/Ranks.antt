-- How long a run of a request goes on.
use Rattle.std.specs.Prelude.{ℕ, ◌+◌, ◌-◌, Option, Some, None}
use Rattle.qs_part.specs.declared.event.Actor.TheVariants.{Request as ARequest}
use Rattle.qs_part.specs.declared.event.Event.{Event}
use Rattle.qs_part.specs.declared.event.Event.TheVariants.{Step as StepEvent}
use Rattle.qs_part.specs.declared.stripe.Side.TheVariants.{Head, Tail}
use Rattle.qs_model.specs.Requests.{Req, Stage, ToRoute, ToList, ToStart, ToLoad, ToHold, ToStore, ToSync, ToFree, ToEnd, Ready, Entering, In}
use Rattle.qs_world.specs.Values.{WorldValue, request_at}

-- How many steps of a request may still go on, at most, by its stage. It makes one for each block from its first one
-- on, and an image of `size` bytes has no more blocks than that; behind them it makes one for each of the eight
-- stripes.
abbrev pub rank_of : ℕ → Stage → ℕ
rank_of size (Ready v) = 0
rank_of size Entering = size + 17
rank_of size (In k ToRoute) = size + 16
rank_of size (In k ToList) = size + 15
rank_of size (In k ToStart) = size + 14
rank_of size (In k (ToHold Head)) = size + 13
rank_of size (In k (ToHold Tail)) = size + 12
rank_of size (In k (ToLoad b got)) = (size - b) + 11
rank_of size (In k (ToStore b)) = (size - b) + 11
rank_of size (In k (ToSync s)) = (8 - s) + 2
rank_of size (In k (ToFree side)) = 2
rank_of size (In k (ToEnd v)) = 1

-- of a request that may be gone
abbrev pub rank_or : ℕ → Option Req → ℕ
rank_or size None = 0
rank_or size (Some q) = rank_of size q.stage

-- of the request that an event steps
abbrev pub rank_at : {D : Type 0} → WorldValue D → Event → ℕ
rank_at w (StepEvent (ARequest r) now) = rank_or w.shape.size (request_at w.requests r)
rank_at w event = 0
