-- Five words or six that begin with `write` have data.
use Rattle.std.proofs.Common.{refl}
use Rattle.qs_script.specs.Lines.{fua_words}
use Rattle.qs_script.specs.declared.read.Verb.TheVariants as verb
use Rattle.qs_script.proofs.Reading.{asks_of, placed, written}
use Rattle.qs_script.proofs.read.write_request.Goals as goal

pub returns-in_default-clause-fault : goal.returns-in_default-clause-fault
returns-in_default-clause-fault c = λ line is.
    let place =
    placed verb.Write c.args.session.now c.args.cookie.now c.args.offset.now c.args.last.now (fua_words c.args.fua) line is in
    c.in_default.ensures.none refl place.0 place.1

pub returns-in-Ok-clause-ok : goal.returns-in-Ok-clause-ok
returns-in-Ok-clause-ok c = (
  c.args.last.now,
  (
    asks_of verb.Write c.args.session.now c.args.cookie.now c.args.offset.now c.args.last.now _ _ _ c.args.fua c.in-Some.ensures.some,
    c.in-Ok.ensures.ok,
  ),
)

pub returns-in-Err-OutOfForm-clause-fault : goal.returns-in-Err-OutOfForm-clause-fault
returns-in-Err-OutOfForm-clause-fault c = λ line is.
    let spelled = written c.args.session.now c.args.cookie.now c.args.offset.now c.args.last.now (fua_words c.args.fua) line is in
    let none = rw c.in-Err-OutOfForm.field-0-is at c.in-Err-OutOfForm.ensures.fault in
    none spelled.0 spelled.1

pub returns-in-Err-Memory-clause-fault : goal.returns-in-Err-Memory-clause-fault
returns-in-Err-Memory-clause-fault c =
    let unheld = rw c.in-Err-Memory.field-0-is at c.in-Err-Memory.ensures.fault in
    let asks = asks_of verb.Write c.args.session.now c.args.cookie.now c.args.offset.now c.args.last.now _ _ _ c.args.fua c.in-Some.ensures.some in
    (unheld.0, ((c.args.last.now, (asks, unheld.1.0)), unheld.1.1))
