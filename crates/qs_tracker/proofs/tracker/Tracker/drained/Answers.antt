use Rattle.std.proofs.Common.{◌≡◌, ◌∙◌, rules, refl, sym, ap}
use Rattle.std.specs.Prelude.{position}
use Rattle.qs_tracker.specs.Seats.{is_in}
use Rattle.qs_tracker.proofs.Fronts.{first_in_front}
use Rattle.qs_tracker.proofs.tracker.Tracker.drained.Goals as goal

pub returns-in-Some : goal.returns-in-Some
returns-in-Some c =
    let whole : c.args.self.now.seats ≡ c.self.inside.seats.items = search rules in
    (ap (position is_in) whole ∙ first_in_front c.self.inside.top _ _ c.deref.ensures.value c.self.invariant.2 ∙ sym c.first_in.ensures.first ∙ c.in-Some.is, refl)

pub returns-in-None : goal.returns-in-None
returns-in-None c =
    let whole : c.args.self.now.seats ≡ c.self.inside.seats.items = search rules in
    (ap (position is_in) whole ∙ first_in_front c.self.inside.top _ _ c.deref.ensures.value c.self.invariant.2 ∙ sym c.first_in.ensures.first ∙ c.in-None.is, refl)
