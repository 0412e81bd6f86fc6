-- A stream that failed takes nothing more; and nothing is put where there is nothing.
use Rattle.std.proofs.Common.{sym, ◌∙◌}
use Rattle.std.proofs.lemmas.Bool.{eqb-true}
use Rattle.qs_stream.proofs.Calls.{puts_lost, puts_none}
use Rattle.qs_stream.proofs.stream.Stream.put.Goals as goal

pub returns-in-Err-clause-puts : goal.returns-in-Err-clause-puts
returns-in-Err-clause-puts g c = puts_lost _ _ c.args.bytes.now c.in-Err.ensures

pub returns-then-is_empty-clause-puts : goal.returns-then-is_empty-clause-puts
returns-then-is_empty-clause-puts g c = puts_none _ _ c.args.bytes.now (eqb-true _ 0 (sym c.is_empty.ensures ∙ c.if-is_empty.true))
