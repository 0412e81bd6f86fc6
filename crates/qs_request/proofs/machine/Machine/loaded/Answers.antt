use Rattle.qs_request.proofs.Loads.{load_follows, load_buffers}
use Rattle.qs_request.proofs.machine.Machine.loaded.Goals as goal

pub returns-clause-step : goal.returns-clause-step
returns-clause-step c =
    load_follows c.args.self.now c.copy_covered.new.self c.args.b c.requires.shape c.requires.loading c.requires.buffers c.copy_covered.ensures
    c.args.k c.after_load.result c.after_load.ensures.step

pub returns-clause-buffers : goal.returns-clause-buffers
returns-clause-buffers c =
    load_buffers c.args.self.now c.copy_covered.new.self c.args.b c.requires.shape c.requires.loading c.requires.buffers c.copy_covered.ensures _
