use Rattle.qs_part.specs.declared.event.Actor.TheVariants.{Request as ARequest}
use Rattle.qs_part.specs.declared.event.Event.TheVariants.{Step as AStep}
use Rattle.qs_calls.proofs.RunCalls.{calls_of, falls_behind, repeated}
use Rattle.qs_calls.proofs.blocks.blocks_on.Goals as goal

pub returns-in_default : goal.returns-in_default
returns-in_default g c =
    let event = AStep (ARequest c.args.number) c.args.now in
    let came = repeated g.D.Disk.seen c.args.world.now event c.run_request.result c.run_request.new.self c.in_default.not-NotNext c.in_default.not-Memory
    c.run_request.ensures.repeats in
    record {
      some = calls_of g.D.Disk.seen c.args.world.now event c.run_request.result c.run_request.new.self came;
      on = λ goes. falls_behind g.D.Disk.seen c.args.world.now c.run_request.new.self c.args.number c.args.now c.run_request.result c.run_request.ensures.before.0
          c.run_request.ensures.before.1 came goes;
      none = tt;
    }
