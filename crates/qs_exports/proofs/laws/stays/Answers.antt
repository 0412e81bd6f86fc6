use Rattle.qs_exports.proofs.Stays.{adds_stays, attaches_stays, deletes_stays, detaches_stays, others_stay}
use Rattle.qs_exports.proofs.laws.stays.Goals as goal

pub returns-clause-add : goal.returns-clause-add
returns-clause-add c = λ old new made result place a. adds_stays old new made result place a

pub returns-clause-attach : goal.returns-clause-attach
returns-clause-attach c = λ old new name result place seated a. attaches_stays old new name result place seated a

pub returns-clause-del : goal.returns-clause-del
returns-clause-del c = λ old new id hard result place seated a. deletes_stays old new id hard result place seated a

pub returns-clause-detach : goal.returns-clause-detach
returns-clause-detach c = λ old new left result place seated a. detaches_stays old new left result place seated a

pub returns-clause-others : goal.returns-clause-others
returns-clause-others c = λ old new left result place apart seated a. others_stay old new left result place apart seated a
