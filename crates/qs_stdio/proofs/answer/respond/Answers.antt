-- What the core answered can be replied.
use Rattle.qs_stdio.proofs.Answering.{can_reply}
use Rattle.qs_stdio.proofs.answer.respond.Goals as goal

pub put_reply-requires : goal.put_reply-requires
put_reply-requires g c =
    let did = c.in_ok-verdict.ensures.some c.requires.resting.0 c.requires.body.0 c.requires.resting.1 c.requires.body.1 in
    can_reply _ c.requires.resting.0 c.args.ask.now c.in_ok-verdict.verdict did.0.may

pub returns-clause-does : goal.returns-clause-does
returns-clause-does g c = λ writable given rests is_body.
    let did = c.in_ok-verdict.ensures.some writable given rests is_body in
    record { body = c.args.body; is_body = is_body; now = c.args.now; exchanged = did.0; rests = did.1 }
