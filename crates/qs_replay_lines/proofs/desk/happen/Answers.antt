-- What isn't refused is a step of the model.
use Rattle.qs_calls.proofs.Plays.{plays_of}
use Rattle.qs_replay_lines.proofs.desk.happen.Goals as goal

pub returns-in_default : goal.returns-in_default
returns-in_default g c =
    let came = plays_of g.D.Disk.seen c.args.world.now c.args.event c.step.result c.step.new.self c.in_default.not-NotNext c.in_default.not-Memory
    c.step.ensures.step c.step.ensures.cause in
    record {
      ok = came.1;
      err = tt;
      next = λ e. absurd (cc);
      memory = λ e. absurd (cc);
      form = λ e. absurd (cc);
    }
