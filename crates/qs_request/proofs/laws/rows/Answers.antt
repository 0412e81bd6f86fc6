use Rattle.qs_request.proofs.Rows.{row_leads}
use Rattle.qs_request.proofs.laws.rows.Goals as goal

pub returns : goal.returns
returns c A q act reply is = row_leads A q.client q.dropped q.pads act reply is
