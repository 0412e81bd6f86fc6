-- A request came: one turn with its data, or without.
use Rattle.std.proofs.Common.{sym, ◌∙◌}
use Rattle.qs_nbd_transmission.proofs.Reading.{asks_room}
use Rattle.qs_outside.specs.declared.stream.Failed.{Failed}
use Rattle.qs_stream.specs.Flows.{flow, side}
use Rattle.qs_stdio.specs.Scenes.{scene}
use Rattle.qs_stdio.proofs.Turning.{finished, finished_bare, ready, request_came}
use Rattle.qs_stdio.proofs.session.Session.serve_one.Goals as goal

pub returns-then-awaits_data : goal.returns-then-awaits_data
returns-then-awaits_data g c = λ writable rests.
    let asks = c.in_ok-ask.ensures in
    let mid = flow g.I.Source.left g.I.Source.read_faults g.O.Sink.sent g.O.Sink.write_faults c.next_ask.new.input c.next_ask.new.output c.next_ask.new.self.stream in
    let comes = request_came Failed c.args.mode.now.structured asks.taken _ c.in-Asked.ask c.next_ask.new.self.reader mid c.in-Asked.is asks.comes in
    finished g.D.Disk.seen 0 writable c.args.mode.now.structured
    (scene g.I.Source.left g.I.Source.read_faults g.O.Sink.sent g.O.Sink.write_faults c.args.input.now c.args.output.now c.args.self.now.stream c.args.world.now)
    mid _ asks.taken c.in-Asked.ask _ _ comes.0 (sym c.awaits_data.ensures ∙ c.if-awaits_data.true) asks.moved c.serve_data.result (c.serve_data.ensures writable rests)

pub returns : goal.returns
returns g c = λ writable rests.
    let asks = c.in_ok-ask.ensures in
    let mid = flow g.I.Source.left g.I.Source.read_faults g.O.Sink.sent g.O.Sink.write_faults c.next_ask.new.input c.next_ask.new.output c.next_ask.new.self.stream in
    let comes = request_came Failed c.args.mode.now.structured asks.taken _ c.in-Asked.ask c.next_ask.new.self.reader mid c.in-Asked.is asks.comes in
    let bare = sym c.awaits_data.ensures ∙ c.if-awaits_data.false in
    finished_bare g.D.Disk.seen 0 writable c.args.mode.now.structured
    (scene g.I.Source.left g.I.Source.read_faults g.O.Sink.sent g.O.Sink.write_faults c.args.input.now c.args.output.now c.args.self.now.stream c.args.world.now)
    mid asks.taken c.in-Asked.ask c.next_ask.new.self.reader.phase c.serve_bare.new.self.reader comes.0 bare asks.moved asks.tells
    (c.serve_bare.ensures.reader ∙ ready c.args.mode.now.structured c.next_ask.new.self.reader comes.1 (asks_room.none c.args.mode.now.structured asks.taken c.in-Asked.ask _ comes.0 bare))
    Failed c.serve_bare.result c.serve_bare.new.world (side g.O.Sink.sent g.O.Sink.write_faults c.serve_bare.new.output) c.serve_bare.new.self.stream
    (c.serve_bare.ensures.bare writable rests)
