-- A front of the bytes was written.
use Rattle.std.proofs.Common.{◌≤◌, ◌-◌, [], length, drop}
use Rattle.qs_stream.specs.Bytes.{Gives}
use Rattle.qs_stream.specs.Faults.{Stays}
use Rattle.qs_stream.proofs.outbox.write_all.Given as goal

abbrev pub invariant-loop-done : goal.invariant-loop-done
invariant-loop-done g l = record {
  gives : Gives (g.O.Sink.sent l.fn.output) [] l.bytes (g.O.Sink.sent l.output) (drop l.done l.bytes);
  inside : l.done ≤ length l.bytes;
  stays : Stays (g.O.Sink.write_faults l.fn.output) (g.O.Sink.write_faults l.output);
}

abbrev pub decreases-loop-done : goal.decreases-loop-done
decreases-loop-done g l = length l.bytes - l.done
