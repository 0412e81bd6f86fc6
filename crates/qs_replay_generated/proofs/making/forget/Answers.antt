-- Those that are kept have another cookie.
use Rattle.std.proofs.Common.{rules, not}
use Rattle.std.specs.Prelude.{◌==◌}
use Rattle.std.proofs.lemmas.Fn.{filter_same}
use Rattle.qs_generate.specs.declared.live.LiveRequest.{LiveRequest}
use Rattle.qs_replay_generated.proofs.making.forget.Goals as goal

pub returns : goal.returns
returns c = filter_same _ (λ (r : LiveRequest). not (r.cookie == c.args.cookie)) _ (λ x b f' k. search rules) _ _ c.retain.ensures.filtered
