-- A front of the piece was written.
use Rattle.std.proofs.Common.{◌≡◌, ◌≤◌, ◌-◌, [], length, drop}
use Rattle.qs_stream.specs.Bytes.{Gives}
use Rattle.qs_wire_stream.proofs.gathered.send_front.Given as goal

abbrev pub invariant-loop-count : goal.invariant-loop-count
invariant-loop-count g l = record {
  gives : Gives (g.W.Wire.sent l.fn.wire) [] l.piece (g.W.Wire.sent l.wire) (drop l.count l.piece);
  inside : l.count ≤ length l.piece;
  faults : g.W.Wire.write_faults l.wire ≡ g.W.Wire.write_faults l.fn.wire;
  waits : g.W.Wire.waits l.wire ≡ g.W.Wire.waits l.fn.wire;
  left : g.W.Wire.left l.wire ≡ g.W.Wire.left l.fn.wire;
  reads : g.W.Wire.read_faults l.wire ≡ g.W.Wire.read_faults l.fn.wire;
}

abbrev pub decreases-loop-count : goal.decreases-loop-count
decreases-loop-count g l = length l.piece - l.count
