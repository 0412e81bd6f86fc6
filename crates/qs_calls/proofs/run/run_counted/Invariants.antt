-- All calls before the last one go on, and behind one that goes on the next can come.
use Rattle.std.proofs.Common.{◌≡◌, ◌%◌, ◌^◌, suc, List, [], ◌∷◌, ◌++◌, cond, true, length}
use Rattle.std.specs.Prelude.{All}
use Rattle.qs_part.specs.declared.event.Event.TheVariants.{Step as AStep}
use Rattle.qs_world.specs.Events.{IsNotNext}
use Rattle.qs_calls.specs.Calls.{Call, Happened, Plays}
use Rattle.qs_calls.specs.Goings.{GoesOn, goes_on}
use Rattle.qs_calls.specs.Ranks.{rank_at}
use Rattle.qs_calls.proofs.run.run_counted.Given as goal

abbrev pub invariant-steps : goal.invariant-steps
invariant-steps g l = (front : List Call) × (All (GoesOn (AStep l.actor l.now)) front ×
    Plays g.D.Disk.seen l.fn.world (front ++ Happened (AStep l.actor l.now) l.last ∷ []) l.world ×
    (l.count ≡ length (front ++ Happened (AStep l.actor l.now) l.last ∷ []) % 2 ^ 64) ×
    (goes_on l.last ≡ true → IsNotNext l.world (AStep l.actor l.now) → ⊥))

abbrev pub decreases-steps : goal.decreases-steps
decreases-steps g l = cond (goes_on l.last) (suc (rank_at l.world (AStep l.actor l.now))) 0
