-- A poll of one request.
use Rattle.qs_serving.specs.Steps.{ServingValue}
use Rattle.qs_transmission_phase.proofs.Hearing.{value_by}
use Rattle.qs_transmission_phase.proofs.Polling.{live_from, number_from, poll_answers, poll_waits, replies_as}
use Rattle.qs_transmission_phase.proofs.phase.TransmissionPhase.poll_one.Goals as goal

pub returns-in-Pending-clause-polls : goal.returns-in-Pending-clause-polls
returns-in-Pending-clause-polls g c =
    let w = c.self.inside in
    let v : ServingValue = value_by w.export w.reader w.next w.requests w.ended w.detached in
    number_from g.W.Wire.left g.W.Wire.sent g.W.Wire.read_faults g.W.Wire.write_faults g.W.Wire.waits _ c.args.number _ _ _ _ c.self.view_is
    (poll_waits v _ _ _ c.args.number c.in-Pending.need c.poll.new.self (live_from _ _ c.args.number c.self.view_is c.requires.live) c.in-Pending.ensures.polls)

pub returns-in-Answered-clause-polls : goal.returns-in-Answered-clause-polls
returns-in-Answered-clause-polls g c =
    let w = c.self.inside in
    let v : ServingValue = value_by w.export w.reader w.next w.requests w.ended w.detached in
    let replies = replies_as w.mode.structured w.reader.structured c.in-Answered.ask c.in-Answered.verdict w.stream c.poll.new.self w.ended c.answer.new.stream c.answer.new.requests c.keep.new.self c.answer.new.ended
    c.self.invariant.1 c.keep.ensures c.answer.ensures in
    number_from g.W.Wire.left g.W.Wire.sent g.W.Wire.read_faults g.W.Wire.write_faults g.W.Wire.waits _ c.args.number _ _ _ _ c.self.view_is
    (poll_answers g.W.Wire.left g.W.Wire.sent g.W.Wire.read_faults g.W.Wire.write_faults g.W.Wire.waits v w.stream c.answer.new.stream _ _ c.args.number c.in-Answered.ask c.in-Answered.verdict c.poll.new.self
    c.keep.new.self c.answer.new.ended c.in-Answered.ensures.polls replies)
