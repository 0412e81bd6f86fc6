use Rattle.qs_request.proofs.Wanted.{may_reply}
use Rattle.qs_request.proofs.laws.replies.Goals as goal

pub returns : goal.returns
returns c = may_reply
