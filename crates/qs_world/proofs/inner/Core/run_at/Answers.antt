use Rattle.qs_world.specs.Cores.{value_of}
use Rattle.qs_world.proofs.RunChain.{step_repeats}
use Rattle.qs_world.proofs.inner.Core.run_at.Goals as goal

pub returns-in-None-clause-runs : goal.returns-in-None-clause-runs
returns-in-None-clause-runs g c = λ l e.
    step_repeats g.D.Disk.seen (value_of c.args.self.now) (value_of c.step_at.new.self) l.number c.step_at.result (c.step_at.ensures l e)
