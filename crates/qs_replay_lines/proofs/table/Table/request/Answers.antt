use Rattle.std.proofs.Common.{◌∙◌, sym, ap}
use Rattle.std.specs.FinMap.{get}
use Rattle.qs_replay_lines.specs.Tables.{Names}
use Rattle.qs_replay_lines.proofs.Lives.{live_get}
use Rattle.qs_replay_lines.proofs.table.Table.request.Goals as goal

pub returns : goal.returns
returns c =
    c.copied.ensures ∙ c.get.ensures.value ∙ sym (live_get c.self.inside.live (c.args.session, c.args.cookie))
    ∙ ap (λ (t : Names). get t.live (c.args.session, c.args.cookie)) c.self.view_is
