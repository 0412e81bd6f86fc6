-- A turn of a session's transmission phase.
use Rattle.std.specs.Prelude.{◌≡◌, ℕ, ◌-◌, ◌^◌, ◌<◌, ◌≤◌, ◌⊎◌, ◌==◌, true, false, if◌then◌else◌, List, [], ◌∷◌, length, Option, Some, None, IsSome}
use Rattle.qs_model.specs.Requests.{Req}
use Rattle.qs_outside.specs.Faults.{Rose}
use Rattle.qs_status.specs.declared.status.SessionEnd.{SessionEnd}
use Rattle.qs_status.specs.declared.status.SessionEnd.TheVariants.{LinkFault}
use Rattle.qs_task.specs.Crews.{live_by_number}
use Rattle.qs_task.specs.Walks.{wait_after}
use Rattle.qs_task.specs.declared.need.Need.{Need}
use Rattle.qs_serving.specs.declared.turned.Awaited.{Awaited}
use Rattle.qs_serving.specs.declared.turned.Awaited.TheVariants.{Wire, Part}
use Rattle.qs_serving.specs.declared.turned.SessionTurn.{SessionTurn}
use Rattle.qs_serving.specs.declared.turned.SessionTurn.TheVariants.{Pending, Ended}
use Rattle.qs_serving.specs.Events.{ServingEvent, CallMade}
use Rattle.qs_serving.specs.Scenes.{ServesOn, ServingScene}
use Rattle.qs_serving.specs.Steps.{ServingValue}

-- what request n has to wait for after its last call among these events, if it made any; before them it was this
abbrev pub stopped_at : ℕ → Option Need → List ServingEvent → Option Need
stopped_at n wait [] = wait
stopped_at n wait (CallMade c ∷ es) = stopped_at n (if c.request == n then wait_after c else wait) es
stopped_at n wait (e ∷ es) = stopped_at n wait es

-- no read is due: the session has ended, 16 requests are live, or all numbers are used up
abbrev pub IsUndue : ServingValue → Type 0
IsUndue v = IsSome v.ended ⊎ ((16 ≤ length v.crew.live) ⊎ (2 ^ 64 - 1 ≤ v.crew.newest))

-- nothing can be written: nothing waits, or the wire failed
abbrev pub IsSettled : ServingScene → Type 0
IsSettled s = (s.current.held ≡ []) ⊎ (s.value.ended ≡ Some LinkFault)

-- what a turn that is pending tells: the part of a live request whose last call was answered by a wait, else the wire
abbrev pub TellsWait : Awaited → List ServingEvent → ServingValue → Type 0
TellsWait Wire es v = v.crew.live ≡ []
TellsWait (Part need) es v =
    (n : ℕ) × IsSome (live_by_number n v.crew.live) × (stopped_at n None es ≡ Some need)

-- A turn is pending: the last call of each live request was made in this turn, and answered by a wait. The wire was
-- found not ready in this turn, or nothing can be written and no read is due.
pub record WaitsFor (awaited : Awaited) (es : List ServingEvent) (old new : ServingScene) : Type 0 where
  pub stopped : (n : ℕ) (q : Req) → 0 < n → live_by_number n new.value.crew.live ≡ Some q →
      IsSome (stopped_at n None es)
  pub wire : Rose old.current.waits new.current.waits ⊎ (IsSettled new × IsUndue new.value)
  pub told : TellsWait awaited es new.value
  pub there : new.value.detached ≡ false

-- The session has ended so: no request is live, it is no client any more, and all was written unless the wire failed.
pub record LeavesAs (end : SessionEnd) (new : ServingScene) : Type 0 where
  pub ended : new.value.ended ≡ Some end
  pub none : new.value.crew.live ≡ []
  pub detached : new.value.detached ≡ true
  pub written : (end ≡ LinkFault) ⊎ (new.current.held ≡ [])

abbrev pub TurnLeaves : SessionTurn → List ServingEvent → ServingScene → ServingScene → Type 0
TurnLeaves (Pending awaited) es old new = WaitsFor awaited es old new
TurnLeaves (Ended end) es old new = LeavesAs end new

-- what a turn does, and how it ends
pub record SeatTurn (turned : SessionTurn) (old new : ServingScene) : Type 0 where
  pub events : List ServingEvent
  pub serves : ServesOn events old new
  pub leaves : TurnLeaves turned events old new
