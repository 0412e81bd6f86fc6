-- Calls more that go on.
use Rattle.std.proofs.Common.{◌≡◌, [], ◌∷◌, ◌++◌, true, rules}
use Rattle.qs_part.specs.declared.event.Actor.TheVariants.{Request as ARequest}
use Rattle.qs_part.specs.declared.event.Event.TheVariants.{Step as AStep}
use Rattle.qs_world.specs.Running.{meant}
use Rattle.qs_calls.specs.Calls.{Happened}
use Rattle.qs_calls.specs.Goings.{goes_on}
use Rattle.qs_calls.proofs.RunCalls.{goes_with, plays_with}
use Rattle.qs_calls.proofs.blocks.run_blocks.Goals as goal

pub steps-preserved : goal.steps-preserved
steps-preserved g c =
    let made = AStep (ARequest c.args.number) c.args.now in
    let on : goes_on c.steps.outcome ≡ true = search rules in
    let front = c.steps.invariant.0 ++ Happened made c.steps.outcome ∷ [] in
    let more = c.in-Some.ensures.some in (
      front ++ more.0,
      (
        goes_with made c.steps.invariant.0 c.steps.outcome more.0 c.steps.invariant.1.0 on more.1.0,
        plays_with made (meant g.D.Disk.seen c.args.world.now) (meant g.D.Disk.seen c.steps.world) (meant g.D.Disk.seen c.blocks_on-in-steps.new.world) front more.0 c.in-Some.next
            c.steps.invariant.1.1 more.1.1,
        λ goes. (c.in-Some.ensures.on goes).1,
      ),
    )
