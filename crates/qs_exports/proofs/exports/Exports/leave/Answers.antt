use Rattle.std.proofs.Common.{rules, ◌≡◌, sym, subst}
use Rattle.std.specs.List.{remove}
use Rattle.qs_exports.specs.Standing.{AreSeated}
use Rattle.qs_exports.proofs.Seats.{seated_less}
use Rattle.qs_exports.proofs.exports.Exports.leave.Goals as goal

pub invariant_of-self : goal.invariant_of-self
invariant_of-self c =
    let items : c.remove.new.self.items ≡ remove c.self.inside.list.items c.args.at = search rules in
    subst AreSeated (sym items) (seated_less c.self.inside.list.items c.args.at c.self.invariant)
