-- One turn more, or the end.
use Rattle.std.proofs.Common.{arith}
use Rattle.qs_outside.specs.declared.stream.Failed.{Failed}
use Rattle.qs_stdio.specs.Scenes.{scene}
use Rattle.qs_stdio.proofs.Serving.{served_none, served_more, sits_fault, sits_end, sits_spent, turned, turned_end, fault_told}
use Rattle.qs_stdio.proofs.session.Session.serve_all.Goals as goal

pub loop-init : goal.loop-init
loop-init g c = record { served = λ writable rests. served_none g.D.Disk.seen 0 writable c.args.mode.now.structured _ rests; ready = c.requires.between }

pub serve_one-requires-clause-resting : goal.serve_one-requires-clause-resting
serve_one-requires-clause-resting g c = (c.requires.resting.0, (c.loop.invariant.served c.requires.resting.0 c.requires.resting.1).rests)

pub serve_one-requires-clause-room : goal.serve_one-requires-clause-room
serve_one-requires-clause-room g c =
    let served = c.loop.invariant.served c.requires.resting.0 c.requires.resting.1 in
    omega (arith, served.next, c.requires.room)

pub returns-in_err-serve_one : goal.returns-in_err-serve_one
returns-in_err-serve_one g c = λ writable rests.
    let served = c.loop.invariant.served writable rests in
    let turn = c.in_err-serve_one.ensures writable served.rests in
    fault_told g.D.Disk.seen 0 writable c.args.mode.now.structured c.args.budget _ _ c.from_residual.result _ c.from_residual.ensures.1
    (sits_fault g.D.Disk.seen 0 writable c.args.mode.now.structured c.args.budget _ _ c.loop.counter served _ turn.0 turn.1)

pub returns-in-Ends : goal.returns-in-Ends
returns-in-Ends g c = λ writable rests.
    let mid = scene g.I.Source.left g.I.Source.read_faults g.O.Sink.sent g.O.Sink.write_faults c.loop.input c.loop.output c.loop.self.stream c.loop.world in
    let after =
    scene g.I.Source.left g.I.Source.read_faults g.O.Sink.sent g.O.Sink.write_faults c.serve_one.new.input c.serve_one.new.output c.serve_one.new.self.stream c.serve_one.new.world in
    let served = c.loop.invariant.served writable rests in
    let ends = turned_end Failed g.D.Disk.seen 0 writable c.args.mode.now.structured mid after c.serve_one.new.self.reader _ c.in-Ends.status c.in-Ends.is (c.in_ok-serve_one.ensures writable served.rests) in
    sits_end g.D.Disk.seen 0 writable c.args.mode.now.structured c.args.budget _ mid c.loop.counter served after _ _ c.in-Ends.status c.finish.result
    ends.0 ends.1 c.finish.ensures.puts c.finish.ensures.tells c.finish.ensures.written c.finish.ensures.same

pub loop-preserved : goal.loop-preserved
loop-preserved g c =
    let mid = scene g.I.Source.left g.I.Source.read_faults g.O.Sink.sent g.O.Sink.write_faults c.loop.input c.loop.output c.loop.self.stream c.loop.world in
    let after =
    scene g.I.Source.left g.I.Source.read_faults g.O.Sink.sent g.O.Sink.write_faults c.serve_one.new.input c.serve_one.new.output c.serve_one.new.self.stream c.serve_one.new.world in
    let first = c.loop.invariant.served c.requires.resting.0 c.requires.resting.1 in
    record {
      served = λ writable rests.
          let served = c.loop.invariant.served writable rests in
          let going = turned Failed g.D.Disk.seen 0 writable c.args.mode.now.structured mid after c.serve_one.new.self.reader _ c.in-Goes.is (c.in_ok-serve_one.ensures writable served.rests) in
          served_more g.D.Disk.seen 0 writable c.args.mode.now.structured _ mid after c.loop.counter served (going.0, going.1.0);
      ready = (turned Failed g.D.Disk.seen 0 c.requires.resting.0 c.args.mode.now.structured mid after c.serve_one.new.self.reader _ c.in-Goes.is (c.in_ok-serve_one.ensures c.requires.resting.0 first.rests)).1.1;
    }

pub returns : goal.returns
returns g c = λ writable rests.
    sits_spent g.D.Disk.seen 0 writable c.args.mode.now.structured c.args.budget _
    (scene g.I.Source.left g.I.Source.read_faults g.O.Sink.sent g.O.Sink.write_faults c.loop.input c.loop.output c.loop.self.stream c.loop.world)
    c.loop.counter (c.loop.invariant.served writable rests) _ _ c.finish-2.result (omega arith) c.finish-2.ensures.puts c.finish-2.ensures.tells c.finish-2.ensures.written c.finish-2.ensures.same
