use Rattle.std.proofs.Common.{◌≡◌, ◌∙◌, refl, subst}
use Rattle.qs_model.specs.Requests.{Ready}
use Rattle.qs_world.specs.declared.live.Live.{Live}
use Rattle.qs_world.specs.Follows.{next_of}
use Rattle.qs_world.proofs.Keyed.{element, remove_set}
use Rattle.qs_world.proofs.live.follow.Goals as goal

pub answer-requires : goal.answer-requires
answer-requires c =
    c.requires.awaits c.index_mut.result.now
    (element c.args.requests.now.items c.args.at c.index_mut.result.now c.requires.inside c.index_mut.ensures.value)

pub returns-in-Some : goal.returns-in-Some
returns-in-Some c = λ l at.
    let same : c.index_mut.result.now ≡ l = c.index_mut.ensures.value ∙ at.is c.index_mut.result.now in (
      refl,
      subst (λ (x : Live). (next_of x c.args.reply).stage ≡ Ready c.in-Some.verdict) same c.in-Some.ensures,
      c.remove-live.ensures.items ∙ remove_set c.args.requests.now.items c.args.at c.answer.new.live,
    )
