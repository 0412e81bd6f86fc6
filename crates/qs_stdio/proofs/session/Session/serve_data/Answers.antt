-- The data came, as many as were announced, and the WRITE was answered.
use Rattle.std.proofs.Common.{ℕ, Option, List, [], ap, sym, ◌∙◌, subst}
use Rattle.qs_nbd_transmission.specs.Phases.{InHead}
use Rattle.qs_outside.specs.declared.stream.Failed.{Failed}
use Rattle.qs_stream.specs.Flows.{flow, side}
use Rattle.qs_stdio.specs.Scenes.{scene}
use Rattle.qs_single.specs.Resting.{IsBody}
use Rattle.qs_world.specs.Values.{WorldValue}
use Rattle.qs_stdio.specs.Turns.{Answered, IsData}
use Rattle.qs_stdio.proofs.Answering.{data_body}
use Rattle.qs_stdio.proofs.Turning.{answered_in, data_awaited, data_came, data_length, still_so}
use Rattle.qs_stdio.proofs.session.Session.serve_data.Goals as goal

pub respond-requires-clause-body : goal.respond-requires-clause-body
respond-requires-clause-body g c =
    let brings = c.in_ok-room.ensures in
    let is = data_came Failed c.give.new.self c.next_data.new.self.reader brings.taken _ c.in-Some.room
    (flow g.I.Source.left g.I.Source.read_faults g.O.Sink.sent g.O.Sink.write_faults c.next_data.new.input c.next_data.new.output c.next_data.new.self.stream)
    c.in-Some.is brings.brings in
    let count = data_awaited c.args.mode.now.structured c.args.self.now.reader c.give.new.self c.args.ask.now c.room_for-room.result c.requires.awaits c.give.ensures in
    let whole = subst (λ (n : ℕ). IsData brings.taken n c.in-Some.room) count is.0 in
    (brings.taken, subst (λ (o : Option (List ℕ)). IsBody c.args.ask.now brings.taken o) (sym c.body_of-body.ensures) (data_body c.args.ask.now brings.taken c.in-Some.room whole))

pub returns : goal.returns
returns g c = λ writable rests.
    let brings = c.in_ok-room.ensures in
    let mid = flow g.I.Source.left g.I.Source.read_faults g.O.Sink.sent g.O.Sink.write_faults c.next_data.new.input c.next_data.new.output c.next_data.new.self.stream in
    let is = data_came Failed c.give.new.self c.next_data.new.self.reader brings.taken _ c.in-Some.room mid c.in-Some.is brings.brings in
    let count = data_awaited c.args.mode.now.structured c.args.self.now.reader c.give.new.self c.args.ask.now c.room_for-room.result c.requires.awaits c.give.ensures in
    let so = still_so c.args.mode.now.structured c.args.self.now.reader c.give.new.self c.args.ask.now c.room_for-room.result c.requires.awaits c.give.ensures in
    let whole = subst (λ (n : ℕ). IsData brings.taken n c.in-Some.room) count is.0 in
    let body = subst (λ (o : Option (List ℕ)). IsBody c.args.ask.now brings.taken o) (sym c.body_of-body.ensures) (data_body c.args.ask.now brings.taken c.in-Some.room whole) in (
      brings.taken,
      (
        data_length brings.taken c.args.ask.now.length c.in-Some.room whole,
        subst (λ (w : WorldValue _). Answered g.D.Disk.seen 0 writable c.args.mode.now.structured c.args.ask.now brings.taken
            (scene g.I.Source.left g.I.Source.read_faults g.O.Sink.sent g.O.Sink.write_faults c.args.input.now c.args.output.now c.args.self.now.stream c.args.world.now)
            (scene g.I.Source.left g.I.Source.read_faults g.O.Sink.sent g.O.Sink.write_faults c.next_data.new.input c.respond.new.output c.respond.new.stream w))
            (sym c.keep_body.ensures)
            (answered_in g.D.Disk.seen 0 writable c.args.mode.now.structured c.args.ask.now brings.taken
            (scene g.I.Source.left g.I.Source.read_faults g.O.Sink.sent g.O.Sink.write_faults c.args.input.now c.args.output.now c.args.self.now.stream c.args.world.now)
            mid c.respond.new.world (side g.O.Sink.sent g.O.Sink.write_faults c.respond.new.output) c.respond.new.stream brings.moved
            (record {
              verdict = c.in-Some-respond.verdict;
              does = c.in-Some-respond.ensures.does writable brings.taken rests body;
              puts = c.in-Some-respond.ensures.puts;
            })),
        is.1 ∙ ap (λ (s : _). record { structured = s; phase = InHead [] }) so,
      ),
    )
