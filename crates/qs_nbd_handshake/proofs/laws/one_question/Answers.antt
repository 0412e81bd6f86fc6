use Rattle.qs_nbd_handshake.proofs.Questions.{spells_questions}
use Rattle.qs_nbd_handshake.proofs.laws.one_question.Goals as goal

pub returns : goal.returns
returns c = spells_questions
