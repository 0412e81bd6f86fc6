use Rattle.std.proofs.Common.{rules, ◌≡◌, List, [], ◌∷◌, ◌++◌, sym, subst, lit<}
use Rattle.std.specs.Prelude.{Some}
use Rattle.qs_exports.specs.declared.export.Export.{Export}
use Rattle.qs_exports.specs.Changes.{made_at_place}
use Rattle.qs_exports.specs.Standing.{AreSeated, LowestFreePlace}
use Rattle.qs_exports.proofs.Seats.{seated_more}
use Rattle.qs_exports.proofs.exports.Exports.add.Goals as goal

pub invariant_of-self-2 : goal.invariant_of-self-2
invariant_of-self-2 c =
    let old : List Export = c.self.inside.list.items in
    let free : LowestFreePlace old (Some c.in-Some-lowest_free.place) = search rules in
    let items : c.push.new.self.items ≡ old ++ made_at_place c.args.made c.in-Some-lowest_free.place ∷ [] = search rules in
    subst AreSeated (sym items)
    (seated_more old (made_at_place c.args.made c.in-Some-lowest_free.place) c.self.invariant free.0 (lit< tt) free.1)
