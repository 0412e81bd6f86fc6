-- Each turn has its own line.
use Rattle.std.proofs.Common.{sym, ap, ◌∙◌}
use Rattle.qs_generate.specs.Lives.{Generated}
use Rattle.qs_generate.proofs.Following.{at_turn}
use Rattle.qs_generate.proofs.run.GeneratedRun.next_line.Goals as goal

pub returns-in-Attach-clause-line : goal.returns-in-Attach-clause-line
returns-in-Attach-clause-line c = at_turn c.args.self.now c.args.live.now (ap (λ (g : Generated). g.turn) (sym c.self.view_is) ∙ c.in-Attach.is) c.attach.ensures.line

pub returns-in-Ask-clause-line : goal.returns-in-Ask-clause-line
returns-in-Ask-clause-line c = at_turn c.args.self.now c.args.live.now (ap (λ (g : Generated). g.turn) (sym c.self.view_is) ∙ c.in-Ask.is) c.ask.ensures.line

pub returns-in-Step-clause-line : goal.returns-in-Step-clause-line
returns-in-Step-clause-line c = at_turn c.args.self.now c.args.live.now (ap (λ (g : Generated). g.turn) (sym c.self.view_is) ∙ c.in-Step.is) c.step.ensures.line

pub returns-in-Run-clause-line : goal.returns-in-Run-clause-line
returns-in-Run-clause-line c = at_turn c.args.self.now c.args.live.now (ap (λ (g : Generated). g.turn) (sym c.self.view_is) ∙ c.in-Run.is) c.pass.ensures.line
