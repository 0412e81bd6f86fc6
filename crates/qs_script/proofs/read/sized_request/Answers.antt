-- The words of a request but a WRITE have a length.
use Rattle.std.proofs.Common.{refl}
use Rattle.qs_script.specs.Lines.{fua_words}
use Rattle.qs_script.proofs.Reading.{placed}
use Rattle.qs_script.proofs.read.sized_request.Goals as goal

pub returns-in_err-session-clause-none : goal.returns-in_err-session-clause-none
returns-in_err-session-clause-none c = λ e line is.
    let place =
    placed c.args.verb c.args.session.now c.args.cookie.now c.args.offset.now c.args.last.now (fua_words c.args.fua) line is in
    c.in_err-session.ensures.none refl place.0 place.1
