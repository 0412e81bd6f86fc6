-- The head of the reply, and its data.
use Rattle.std.proofs.Common.{ℕ, List, ◌++◌, ◌∙◌, subst}
use Rattle.qs_nbd_transmission.specs.Replies.{data_of}
use Rattle.qs_stream.specs.Flows.{Puts, side}
use Rattle.qs_stream.proofs.Calls.{puts_on}
use Rattle.qs_stdio.proofs.answer.put_reply.Goals as goal

pub returns : goal.returns
returns g c =
    subst (λ (front : List ℕ). Puts (front ++ data_of c.args.verdict.now) (side g.O.Sink.sent g.O.Sink.write_faults c.args.output.now) c.args.stream.now
    (side g.O.Sink.sent g.O.Sink.write_faults c.put_data.new.output) c.put_data.new.stream)
    (c.as_slice.ensures.bytes ∙ c.reply_head-head.ensures)
    (puts_on _ _ _ _ _ _ _ _ c.put.ensures.puts c.put_data.ensures)
