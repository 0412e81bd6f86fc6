-- All calls before the last one go on, and behind one that goes on the next can come.
use Rattle.std.proofs.Common.{◌≡◌, suc, List, [], ◌∷◌, ◌++◌, cond, true}
use Rattle.std.specs.Prelude.{All}
use Rattle.qs_part.specs.declared.event.Actor.TheVariants.{Request as ARequest}
use Rattle.qs_part.specs.declared.event.Event.TheVariants.{Step as AStep}
use Rattle.qs_world.specs.Events.{IsNotNext}
use Rattle.qs_world.specs.Running.{meant}
use Rattle.qs_calls.specs.Calls.{Call, Happened, Plays}
use Rattle.qs_calls.specs.Goings.{GoesOn, goes_on}
use Rattle.qs_calls.specs.Ranks.{rank_at}
use Rattle.qs_calls.proofs.blocks.run_blocks.Given as goal

abbrev pub invariant-steps : goal.invariant-steps
invariant-steps g l = (front : List Call) × (All (GoesOn (AStep (ARequest l.number) l.now)) front ×
    Plays (λ d. d) (meant g.D.Disk.seen l.fn.world) (front ++ Happened (AStep (ARequest l.number) l.now) l.outcome ∷ []) (meant g.D.Disk.seen l.world) ×
    (goes_on l.outcome ≡ true → IsNotNext l.world (AStep (ARequest l.number) l.now) → ⊥))

abbrev pub decreases-steps : goal.decreases-steps
decreases-steps g l = cond (goes_on l.outcome) (suc (rank_at l.world (AStep (ARequest l.number) l.now))) 0
