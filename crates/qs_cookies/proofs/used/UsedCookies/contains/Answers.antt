use Rattle.std.proofs.Common.{◌≡◌, ℕ, Option, Some, None, Bool, true, false, not, is_some, is_none, refl, ap, ◌∙◌}
use Rattle.std.specs.FinSet.{contains}
use Rattle.qs_cookies.proofs.Shown.{contained}
use Rattle.qs_cookies.proofs.used.UsedCookies.contains.Goals as goal

none_is : (o : Option ℕ) (b : Bool) → is_some o ≡ not b → b ≡ is_none o
none_is None true is = refl
none_is None false is = is
none_is (Some x) true is = is
none_is (Some x) false is = refl

pub returns : goal.returns
returns c =
    none_is c.start_for.result c.is_none.result c.is_none.ensures
    ∙ contained c.self.inside.runs c.args.session c.args.cookie c.start_for.result c.start_for.ensures.ordered c.start_for.ensures.found
    ∙ ap (λ s. contains s (c.args.session, c.args.cookie)) c.self.view_is
