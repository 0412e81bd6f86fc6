use Rattle.std.proofs.Common.{rules, ◌≡◌}
use Rattle.std.specs.Prelude.{Some}
use Rattle.std.specs.List.{slice_get}
use Rattle.qs_exports.proofs.Seats.{seated_set}
use Rattle.qs_exports.proofs.exports.Exports.put.Goals as goal

pub invariant_of-self : goal.invariant_of-self
invariant_of-self c =
    let here : slice_get c.self.inside.list.items c.args.at ≡ Some c.args.old = search rules in
    seated_set c.self.inside.list.items c.args.at c.args.old c.args.export c.self.invariant here c.requires.place c.requires.few
