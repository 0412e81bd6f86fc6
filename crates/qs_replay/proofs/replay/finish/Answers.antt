-- What waits was written or couldn't be, or nothing is written.
use Rattle.std.proofs.Common.{[], refl, sym, inl, inr, ◌∙◌}
use Rattle.qs_stream.proofs.Calls.{puts_none}
use Rattle.qs_replay.proofs.replay.finish.Goals as goal

pub returns-then-is_silent : goal.returns-then-is_silent
returns-then-is_silent g c = record { puts = puts_none _ c.args.stream.now [] refl; how = inl (sym c.is_silent.ensures ∙ c.if-is_silent.true, refl, refl, refl) }

pub returns-in-Ok : goal.returns-in-Ok
returns-in-Ok g c = record {
  puts = c.in-Ok.ensures.puts;
  how = inr (sym c.is_silent.ensures ∙ c.if-is_silent.false, inl (refl, c.in-Ok.ensures.tells, c.in-Ok.ensures.written));
}

pub returns-in-Err : goal.returns-in-Err
returns-in-Err g c = record {
  puts = c.in-Err.ensures.puts;
  how = inr (sym c.is_silent.ensures ∙ c.if-is_silent.false, inr (refl, c.in-Err.ensures.tells));
}
