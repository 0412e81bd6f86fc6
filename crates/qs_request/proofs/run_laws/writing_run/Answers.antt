use Rattle.qs_request.proofs.WholeWrites.{store-done, stores-before, stores-fail, stores-held, whole-merged}
use Rattle.qs_request.proofs.run_laws.writing_run.Goals as goal

pub returns : goal.returns
returns c = λ A q run some is. record {
  before = stores-before A q run q.client.body some is;
  content = λ i below. whole-merged A q.client q.pads run i is.whole_run below;
  done = store-done A q run q.client.body some is;
  fails = stores-fail A q run q.client.body some is;
  waits = stores-held A q run q.client.body some is;
}
