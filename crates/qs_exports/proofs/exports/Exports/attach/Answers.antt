use Rattle.std.proofs.Common.{rules, ◌≡◌, ◌+◌, ◌<◌, ◌∙◌, ℕ, List, sym, ap}
use Rattle.std.specs.Prelude.{Some, position}
use Rattle.std.specs.List.{slice_get, slice_set}
use Rattle.std.proofs.lemmas.Option.{same_Some}
use Rattle.qs_exports.specs.declared.export.Export.{Export}
use Rattle.qs_exports.specs.Standing.{is_meant_by}
use Rattle.qs_exports.proofs.Seats.{set_here}
use Rattle.qs_exports.proofs.exports.Exports.attach.Goals as goal

pub returns : goal.returns
returns c =
    let old : List Export = c.args.self.now in
    let i : ℕ = c.in-Some.at in
    let x : Export = c.element-export.result in
    let n : Export = record x { clients = x.clients + 1 } in
    let first : position (is_meant_by c.args.name.now) old ≡ Some i = search rules in
    let few : x.clients < 1024 = search rules in
    let here : slice_get old i ≡ Some x = c.element-export.ensures.here in
    let is : n ≡ c.element.result = same_Some n c.element.result
    (sym (set_here old i x n here) ∙ sym (ap (λ (l : List Export). slice_get l i) c.join.ensures) ∙ c.element.ensures.here) in
    (i, x, ((first, here), few, sym is, c.join.ensures ∙ ap (λ (y : Export). slice_set old i y) is))
