-- A longer front was written.
use Rattle.std.proofs.Common.{arith, length-drop}
use Rattle.qs_stream.proofs.Parts.{take_rest}
use Rattle.qs_stream.proofs.Bytes.{gives_all, gives_write}
use Rattle.qs_stream.proofs.outbox.write_all.Goals as goal

pub loop-done-init : goal.loop-done-init
loop-done-init g c = record { gives = gives_all _ c.args.bytes.now; inside = omega arith; stays = omega arith }

pub loop-done-preserved : goal.loop-done-preserved
loop-done-preserved g c =
    let few = rw (take_rest c.args.bytes.now c.loop-done.done) at c.in_ok-done.ensures.bound in
    record {
      gives = gives_write _ _ _ c.args.bytes.now c.loop-done.done c.in_ok-done.field-0 c.loop-done.invariant.gives c.in_ok-done.ensures.bytes;
      inside = omega (arith, few, length-drop c.loop-done.done c.args.bytes.now, c.loop-done.invariant.inside);
      stays = omega (arith, c.in_ok-done.ensures.cause.kept, c.loop-done.invariant.stays);
    }
