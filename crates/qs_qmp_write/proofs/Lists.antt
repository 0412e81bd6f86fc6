-- Lists of rows as JSON.
use Rattle.std.proofs.Common.{◌≡◌, ℕ, ◌≤◌, false, List, [], ◌∷◌, map, take, length, refl, ap, ◌∙◌}
use Rattle.std.proofs.lemmas.List.{take_all}
use Rattle.serde_json.specs.Data.{Data, array}
use Rattle.serde_json.specs.View.{view, items_of, items_view}
use Rattle.serde_json.specs.Written.{has_float, items_have_float}
use Rattle.serde_json.specs.declared.value.Value.{Value}
use Rattle.qs_part.specs.declared.table.NodeRow.{NodeRow}
use Rattle.qs_part.specs.declared.table.ExportRow.{ExportRow}
use Rattle.qs_qmp_write.specs.Texts.{node, nodes, export_data, exports}

nodes_whole : (rows : List NodeRow) → items_have_float (items_of (map node rows)) ≡ false
nodes_whole [] = refl
nodes_whole (row ∷ rows) = nodes_whole rows

exports_whole : (rows : List ExportRow) → items_have_float (items_of (map export_data rows)) ≡ false
exports_whole [] = refl
exports_whole (row ∷ rows) = exports_whole rows

pub nodes_listed : (d : Data) (vs : List Value) (rows : List NodeRow) (k : ℕ) → d ≡ array (items_view vs) → map view vs ≡ map node (take k rows) →
    length rows ≤ k → (d ≡ nodes rows) × (has_float d ≡ false)
nodes_listed d vs rows k is same long =
    let e : d ≡ nodes rows = is ∙ ap (λ ds. array (items_of ds)) (same ∙ ap (λ xs. map node xs) (take_all k rows long)) in
    (e, ap (λ x. has_float x) e ∙ nodes_whole rows)

pub exports_listed : (d : Data) (vs : List Value) (rows : List ExportRow) (k : ℕ) → d ≡ array (items_view vs) → map view vs ≡ map export_data (take k rows) →
    length rows ≤ k → (d ≡ exports rows) × (has_float d ≡ false)
exports_listed d vs rows k is same long =
    let e : d ≡ exports rows = is ∙ ap (λ ds. array (items_of ds)) (same ∙ ap (λ xs. map export_data xs) (take_all k rows long)) in
    (e, ap (λ x. has_float x) e ∙ exports_whole rows)
