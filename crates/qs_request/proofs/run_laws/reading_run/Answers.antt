use Rattle.qs_request.proofs.WholeReads.{loads-before, loads-fail, loads-whole}
use Rattle.qs_request.proofs.run_laws.reading_run.Goals as goal

pub returns : goal.returns
returns c = λ A q run buf some is. record {
  before = loads-before A q run buf some is;
  whole = loads-whole A q run buf some is;
  fails = loads-fail A q run buf some is;
}
