-- The handshake ended the session, or requests were served behind it.
use Rattle.std.proofs.Common.{◌∙◌, not, ap, arith, subst}
use Rattle.std.specs.Prelude.{Result, Ok}
use Rattle.qs_outside.specs.declared.stream.Failed.{Failed}
use Rattle.qs_opening.specs.declared.turn.Opened.{Opened}
use Rattle.qs_opening.specs.Openings.{OpensSession}
use Rattle.qs_stream.specs.Buffers.{Buffers}
use Rattle.qs_stream.specs.Flows.{flow, side}
use Rattle.qs_stdio.specs.Runs.{Sitting, opening_scene, last_scene}
use Rattle.qs_stdio.proofs.Handshaking.{opened_joined}
use Rattle.qs_stdio.proofs.Running.{client_closed, client_failed, client_sat}
use Rattle.qs_stdio.proofs.run.serve_client.Goals as goal

pub serve-requires-clause-resting : goal.serve-requires-clause-resting
serve-requires-clause-resting g c =
    let before = flow g.I.Source.left g.I.Source.read_faults g.O.Sink.sent g.O.Sink.write_faults c.args.input.now c.args.output.now c.in-Ok.stream in
    let after = flow g.I.Source.left g.I.Source.read_faults g.O.Sink.sent g.O.Sink.write_faults c.open_session.new.input c.open_session.new.output c.open_session.new.stream in
    let opens = subst (λ (r : Result Opened Failed). OpensSession {E = Failed} g.D.Disk.seen 0 (not c.requires.1) c.args.budget before c.args.world.now r after c.open_session.new.world)
    (c.in-Ok-Transmit.is ∙ ap Ok c.in-Ok-Transmit.field-0-is) (c.open_session.ensures c.requires.0 c.requires.1 c.requires.2) in
    (not c.requires.1, (opened_joined g.D.Disk.seen 0 (not c.requires.1) c.args.budget before c.args.world.now after c.open_session.new.world c.in-Ok-Transmit.mode opens).attaches.rests)

pub serve-requires-clause-room : goal.serve-requires-clause-room
serve-requires-clause-room g c =
    let before = flow g.I.Source.left g.I.Source.read_faults g.O.Sink.sent g.O.Sink.write_faults c.args.input.now c.args.output.now c.in-Ok.stream in
    let after = flow g.I.Source.left g.I.Source.read_faults g.O.Sink.sent g.O.Sink.write_faults c.open_session.new.input c.open_session.new.output c.open_session.new.stream in
    let opens = subst (λ (r : Result Opened Failed). OpensSession {E = Failed} g.D.Disk.seen 0 (not c.requires.1) c.args.budget before c.args.world.now r after c.open_session.new.world)
    (c.in-Ok-Transmit.is ∙ ap Ok c.in-Ok-Transmit.field-0-is) (c.open_session.ensures c.requires.0 c.requires.1 c.requires.2) in
    let joined = opened_joined g.D.Disk.seen 0 (not c.requires.1) c.args.budget before c.args.world.now after c.open_session.new.world c.in-Ok-Transmit.mode opens in
    omega (arith, joined.attaches.next, c.ranges.budget.fits)

pub returns-in-Ok-Transmit : goal.returns-in-Ok-Transmit
returns-in-Ok-Transmit g c = λ disks read_only begins.
    let seen = g.D.Disk.seen in
    let input = side g.I.Source.left g.I.Source.read_faults c.args.input.now in
    let output = side g.O.Sink.sent g.O.Sink.write_faults c.args.output.now in
    let input' = side g.I.Source.left g.I.Source.read_faults c.serve.new.input in
    let output' = side g.O.Sink.sent g.O.Sink.write_faults c.serve.new.output in
    let mid = flow g.I.Source.left g.I.Source.read_faults g.O.Sink.sent g.O.Sink.write_faults c.open_session.new.input c.open_session.new.output c.open_session.new.stream in
    let opens = subst (λ (r : Result Opened Failed). OpensSession {E = Failed} seen 0 (not read_only) c.args.budget (opening_scene input output c.args.world.now).flow c.args.world.now r mid c.open_session.new.world)
    (c.in-Ok-Transmit.is ∙ ap Ok c.in-Ok-Transmit.field-0-is)
    (subst (λ (b : Buffers). OpensSession {E = Failed} seen 0 (not read_only) c.args.budget (record { input = input; output = output; stream = b }) c.args.world.now c.open_session.result mid c.open_session.new.world)
    c.in-Ok.ensures (c.open_session.ensures disks read_only begins)) in
    let joined = opened_joined seen 0 (not read_only) c.args.budget (opening_scene input output c.args.world.now).flow c.args.world.now mid c.open_session.new.world c.in-Ok-Transmit.mode opens in
    client_sat seen disks read_only c.args.budget input output c.args.world.now c.open_session.new.world c.in-Ok-Transmit.mode mid c.serve.result input' output'
    c.serve.new.self.stream c.serve.new.world begins opens
    (subst (λ (b : Buffers). Sitting seen 0 (not read_only) c.in-Ok-Transmit.mode.structured c.args.budget
    (record { flow = record { input = mid.input; output = mid.output; stream = b }; world = c.open_session.new.world })
    (last_scene input' output' c.serve.new.self.stream c.serve.new.world) c.serve.result)
    c.over-session.ensures.stream (c.serve.ensures (not read_only) joined.attaches.rests))

pub returns-in-Ok-Ends : goal.returns-in-Ok-Ends
returns-in-Ok-Ends g c = λ disks read_only begins.
    let seen = g.D.Disk.seen in
    let input = side g.I.Source.left g.I.Source.read_faults c.args.input.now in
    let output = side g.O.Sink.sent g.O.Sink.write_faults c.args.output.now in
    let mid = flow g.I.Source.left g.I.Source.read_faults g.O.Sink.sent g.O.Sink.write_faults c.open_session.new.input c.open_session.new.output c.open_session.new.stream in
    let opens = subst (λ (r : Result Opened Failed). OpensSession {E = Failed} seen 0 (not read_only) c.args.budget (opening_scene input output c.args.world.now).flow c.args.world.now r mid c.open_session.new.world)
    (c.in-Ok-Ends.is ∙ ap Ok c.in-Ok-Ends.field-0-is)
    (subst (λ (b : Buffers). OpensSession {E = Failed} seen 0 (not read_only) c.args.budget (record { input = input; output = output; stream = b }) c.args.world.now c.open_session.result mid c.open_session.new.world)
    c.in-Ok.ensures (c.open_session.ensures disks read_only begins)) in
    client_closed seen disks read_only c.args.budget input output c.args.world.now c.open_session.new.world c.in-Ok-Ends.status mid c.conclude.result
    (side g.O.Sink.sent g.O.Sink.write_faults c.conclude.new.output) c.conclude.new.stream opens c.conclude.ensures

pub returns-in-Err : goal.returns-in-Err
returns-in-Err g c = λ disks read_only begins.
    let seen = g.D.Disk.seen in
    let input = side g.I.Source.left g.I.Source.read_faults c.args.input.now in
    let output = side g.O.Sink.sent g.O.Sink.write_faults c.args.output.now in
    let mid = flow g.I.Source.left g.I.Source.read_faults g.O.Sink.sent g.O.Sink.write_faults c.open_session.new.input c.open_session.new.output c.open_session.new.stream in
    let opens = subst (λ (r : Result Opened Failed). OpensSession {E = Failed} seen 0 (not read_only) c.args.budget (opening_scene input output c.args.world.now).flow c.args.world.now r mid c.open_session.new.world)
    c.in-Err.is
    (subst (λ (b : Buffers). OpensSession {E = Failed} seen 0 (not read_only) c.args.budget (record { input = input; output = output; stream = b }) c.args.world.now c.open_session.result mid c.open_session.new.world)
    c.in-Ok.ensures (c.open_session.ensures disks read_only begins)) in
    client_failed seen disks read_only c.args.budget input output c.args.world.now c.open_session.new.world c.in-Err.field-0 mid c.fault.result opens c.fault.ensures
