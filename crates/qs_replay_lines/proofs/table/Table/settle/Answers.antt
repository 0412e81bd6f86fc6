-- The request that was answered is taken out.
use Rattle.std.proofs.Common.{Some, sym, ap, ◌∙◌}
use Rattle.qs_part.specs.declared.event.Outcome.TheVariants.{Answered}
use Rattle.qs_replay_lines.specs.Tables.{Names, names_settled}
use Rattle.qs_replay_lines.proofs.Lives.{live_remove, used_less}
use Rattle.qs_replay_lines.proofs.table.Table.settle.Goals as goal

pub invariant_of-self : goal.invariant_of-self
invariant_of-self c = used_less c.self.inside.used c.self.inside.live c.remove.new.self c.in-Some-Answered.key c.self.invariant c.remove.ensures.updates

pub returns-in-Some-Answered : goal.returns-in-Some-Answered
returns-in-Some-Answered c =
    (λ i. record {
      sessions = c.self.inside.sessions.keys;
      used = c.self.inside.used;
      live = live_remove c.self.inside.live c.remove.new.self c.in-Some-Answered.key c.remove.ensures.updates i;
    })
    ∙ ap (λ (t : Names). names_settled t (Some c.in-Some-Answered.key) (Answered c.in-Some-Answered.field-0-1 c.in-Some-Answered.field-1-1)) c.self.view_is
    ∙ (λ i. names_settled c.args.self.now (sym c.in-Some-Answered.is-0 i) (sym c.in-Some-Answered.is-1 i))
