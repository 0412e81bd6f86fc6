-- A longer front was written.
use Rattle.std.proofs.Common.{arith, length-drop, refl, ◌∙◌}
use Rattle.qs_stream.proofs.Parts.{take_rest}
use Rattle.qs_stream.proofs.Bytes.{gives_all, gives_write}
use Rattle.qs_wire_stream.proofs.gathered.send_front.Goals as goal

pub loop-count-init : goal.loop-count-init
loop-count-init g c = record {
  gives = gives_all _ c.args.piece.now;
  inside = omega arith;
  faults = refl;
  waits = refl;
  left = refl;
  reads = refl;
}

pub loop-count-preserved : goal.loop-count-preserved
loop-count-preserved g c =
    let few = rw (take_rest c.args.piece.now c.loop-count.count) at c.in-Did.ensures.bound in
    record {
      gives = gives_write _ _ _ c.args.piece.now c.loop-count.count c.in-Did.more c.loop-count.invariant.gives c.in-Did.ensures.bytes;
      inside = omega (arith, few.0, length-drop c.loop-count.count c.args.piece.now, c.loop-count.invariant.inside);
      faults = c.in-Did.ensures.cause ∙ c.loop-count.invariant.faults;
      waits = c.in-Did.ensures.wait ∙ c.loop-count.invariant.waits;
      left = c.in-Did.ensures.beside ∙ c.loop-count.invariant.left;
      reads = c.in-Did.ensures.beside_count ∙ c.loop-count.invariant.reads;
    }
