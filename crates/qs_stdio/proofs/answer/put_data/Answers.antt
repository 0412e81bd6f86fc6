-- A reply without data.
use Rattle.std.proofs.Common.{ℕ, List, [], refl, sym, subst}
use Rattle.qs_stream.specs.Flows.{Puts, side}
use Rattle.qs_stream.proofs.Calls.{puts_none}
use Rattle.qs_stdio.proofs.Answering.{no_data}
use Rattle.qs_stdio.proofs.answer.put_data.Goals as goal

pub returns-in_default : goal.returns-in_default
returns-in_default g c =
    subst (λ (bytes : List ℕ). Puts bytes (side g.O.Sink.sent g.O.Sink.write_faults c.args.output.now) c.args.stream.now
    (side g.O.Sink.sent g.O.Sink.write_faults c.args.output.now) c.args.stream.now)
    (sym (no_data c.args.verdict.now c.in_default.not-Got)) (puts_none (side g.O.Sink.sent g.O.Sink.write_faults c.args.output.now) c.args.stream.now [] refl)
