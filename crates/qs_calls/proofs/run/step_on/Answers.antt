-- What isn't refused is a step of the model; a step wants no memory.
use Rattle.qs_part.specs.declared.event.Event.TheVariants.{Step as AStep}
use Rattle.qs_calls.proofs.Falling.{falls}
use Rattle.qs_calls.proofs.Plays.{plays_of}
use Rattle.qs_calls.proofs.run.step_on.Goals as goal

pub returns-in_default : goal.returns-in_default
returns-in_default g c =
    let event = AStep c.args.actor c.args.now in
    let came = plays_of g.D.Disk.seen c.args.world.now event c.step.result c.step.new.self c.in_default.not-NotNext c.in_default.not-Memory
    c.step.ensures.step c.step.ensures.cause in
    record {
      some = came.1;
      on = λ goes. falls g.D.Disk.seen c.args.world.now event c.step.result c.step.new.self c.step.ensures.before.0 c.step.ensures.before.1 came.0 goes;
      none = tt;
    }
