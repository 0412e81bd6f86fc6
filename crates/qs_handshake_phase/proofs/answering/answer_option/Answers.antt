-- The option was answered, or its answer was lost.
use Rattle.std.proofs.Common.{refl}
use Rattle.qs_handshake_phase.proofs.Wishing.{left_answers, lost_answers, put_answers, transmits}
use Rattle.qs_handshake_phase.proofs.answering.answer_option.Goals as goal

pub returns-in-Err-clause-answers : goal.returns-in-Err-clause-answers
returns-in-Err-clause-answers g c =
    let asked = c.requires.asked in
    let loses = c.in-Err.ensures.asks in
    lost_answers c.args.reader.now c.args.reader.now c.args.stream.now c.args.stream.now _ _ asked.0 c.args.want.now loses.calls
    asked.1.0 asked.1.1 loses.loses loses.booked refl

pub end_behind-requires : goal.end_behind-requires
end_behind-requires g c =
    let asked = c.requires.asked in
    λ mode. λ is. transmits asked.0 c.args.want.now c.in-Ok.telling c.args.reader.now.terms.mode mode c.in-Ok-put_answer.step _ _
    asked.1.1 c.in-Ok.ensures.asks (c.in-Ok-put_answer.ensures asked.0 asked.1.0).0 is

pub returns-in-Ok-put_answer-clause-answers : goal.returns-in-Ok-put_answer-clause-answers
returns-in-Ok-put_answer-clause-answers g c =
    let asked = c.requires.asked in
    put_answers c.args.reader.now c.put_answer.new.reader c.args.stream.now c.put_answer.new.stream _ _ asked.0 c.args.want.now c.in-Ok.telling
    c.in-Ok-put_answer.step c.end_behind.result asked.1.0 asked.1.1 c.in-Ok.ensures.asks (c.in-Ok-put_answer.ensures asked.0 asked.1.0)
    c.end_behind.ensures.stands c.end_behind.ensures.stays

pub returns-clause-answers : goal.returns-clause-answers
returns-clause-answers g c =
    let asked = c.requires.asked in
    left_answers c.args.reader.now c.put_answer.new.reader c.args.stream.now c.put_answer.new.stream _ _ _ asked.0 c.args.want.now c.in-Ok.telling
    asked.1.0 asked.1.1 c.in-Ok.ensures.asks c.leave.ensures.leaves (c.in-Err-put_answer.ensures asked.0 asked.1.0)
