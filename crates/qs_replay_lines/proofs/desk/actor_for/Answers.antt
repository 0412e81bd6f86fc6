-- The request isn't kept.
use Rattle.std.proofs.Common.{sym, ◌∙◌, subst}
use Rattle.qs_script.specs.declared.actor.ScriptActor.{ScriptActor}
use Rattle.qs_replay_lines.specs.Effects.{IsNotLive}
use Rattle.qs_replay_lines.proofs.desk.actor_for.Goals as goal

pub returns-in_err-request-in-Request-clause-next : goal.returns-in_err-request-in-Request-clause-next
returns-in_err-request-in-Request-clause-next c = λ _.
    subst (λ (w : ScriptActor). IsNotLive c.args.table.now w) (sym c.in-Request.is) (
      c.in_ok-number-in-Request.number,
      c.number-in-Request.new.self,
      (c.in_ok-number-in-Request.ensures.ok, sym c.request.ensures ∙ c.in_err-request-in-Request.ensures.ok_part),
    )
