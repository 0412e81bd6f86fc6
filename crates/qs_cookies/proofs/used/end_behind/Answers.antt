use Rattle.std.proofs.Common.{ℕ, inl, sym, ap, ◌∙◌, subst}
use Rattle.std.specs.Option.{option_copied}
use Rattle.qs_cookies.specs.Used.{IsRun}
use Rattle.qs_cookies.proofs.used.end_behind.Goals as goal

pub returns-in-Some-get : goal.returns-in-Some-get
returns-in-Some-get c =
    inl (subst (λ (k : ℕ). IsRun c.args.runs.now c.args.session k c.in-Some-get.last.now) c.in-Some.ensures.1 (sym c.get.ensures.value ∙ ap option_copied c.in-Some-get.is))
