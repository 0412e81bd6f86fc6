use Rattle.std.proofs.Common.{rules, ◌≡◌, ◌<◌, length, refl}
use Rattle.std.specs.List.{slice_index_or}
use Rattle.std.proofs.lemmas.Option.{slice_get_read}
use Rattle.qs_exports.proofs.Seats.{few_at}
use Rattle.qs_exports.proofs.exports.Exports.element.Goals as goal

pub returns-clause-few : goal.returns-clause-few
returns-clause-few c =
    let within : c.args.at < length c.self.inside.list.items = search rules in
    let here : c.index.result.now ≡ slice_index_or c.self.inside.list.items c.args.at c.index.result.now = search rules in
    few_at c.self.inside.list.items c.args.at c.index.result.now c.self.invariant
    (slice_get_read c.self.inside.list.items (length c.self.inside.list.items) c.args.at c.index.result.now refl within here)
