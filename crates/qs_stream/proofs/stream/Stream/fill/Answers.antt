-- What waited was written, and then the source was called.
use Rattle.std.proofs.Common.{[], inr, refl, ap, ◌∙◌}
use Rattle.std.specs.Prelude.{Ok, Err}
use Rattle.qs_outside.specs.declared.stream.Failed.{Failed}
use Rattle.qs_stream.specs.Buffers.{Buffers}
use Rattle.qs_stream.specs.Flows.{Side, side}
use Rattle.qs_stream.proofs.Moves.{moved_on}
use Rattle.qs_stream.proofs.Calls.{moved_read}
use Rattle.qs_stream.proofs.stream.Stream.fill.Goals as goal

pub returns-in-Ok : goal.returns-in-Ok
returns-in-Ok g c =
    let flushed = c.in_ok-flush.ensures in
    let before : Side = side g.I.Source.left g.I.Source.read_faults c.args.input.now in
    let state_is = ap (λ (b : Buffers). b.state) c.self.view_is ∙ flushed.tells in
    let held_is = ap (λ (b : Buffers). b.held) c.self.view_is in
    record {
      moved = moved_on _ (record { input = before; output = side g.O.Sink.sent g.O.Sink.write_faults c.flush.new.output; stream = c.flush.new.self }) _ [] [] [] []
          (flushed.puts.moved before)
          (moved_read {E = Failed} (Ok c.in-Ok.count) before _ _ c.flush.new.self _ flushed.tells state_is (flushed.puts.waiting ∙ c.requires) held_is
          c.in-Ok.ensures.taken c.in-Ok.ensures.counts);
      tells = state_is;
      count = c.in-Ok.ensures.count;
      at_end = c.in-Ok.ensures.end;
      nothing = tt;
      written = inr (held_is ∙ flushed.written);
      emptied = held_is ∙ flushed.written;
    }

pub returns-in-Err : goal.returns-in-Err
returns-in-Err g c =
    let flushed = c.in_ok-flush.ensures in
    let before : Side = side g.I.Source.left g.I.Source.read_faults c.args.input.now in
    let held_is = ap (λ (b : Buffers). b.held) c.self.view_is in
    record {
      moved = moved_on _ (record { input = before; output = side g.O.Sink.sent g.O.Sink.write_faults c.flush.new.output; stream = c.flush.new.self }) _ [] [] [] []
          (flushed.puts.moved before)
          (moved_read {E = Failed} (Err c.in-Err.failed) before _ _ c.flush.new.self _ flushed.tells refl (flushed.puts.waiting ∙ c.requires) held_is
          c.in-Err.ensures.taken c.in-Err.ensures.counts);
      tells = λ is. absurd (cc);
      count = tt;
      at_end = tt;
      nothing = c.in-Err.ensures.failed;
      written = inr (held_is ∙ flushed.written);
      emptied = tt;
    }
