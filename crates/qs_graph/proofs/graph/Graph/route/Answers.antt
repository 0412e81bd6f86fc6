use Rattle.std.proofs.Common.{◌≡◌, ◌∙◌, ℕ, Bool, option_map, ap, refl, sym}
use Rattle.std.specs.Prelude.{Option, Some, None}
use Rattle.qs_graph.specs.declared.export.Export.{Export}
use Rattle.qs_graph.specs.Exports.{export_at}
use Rattle.qs_graph.specs.Table.{GraphValue, route_of}
use Rattle.qs_graph.proofs.graph.Graph.route.Goals as goal

-- an export stands that may be written or not
stands : (place : Option Export) (writable : Bool) → option_map (λ (x : Export). x.writable) place ≡ Some writable →
    (x : Export) × ((place ≡ Some x) × (writable ≡ x.writable))
stands (Some x) writable is = (x, (refl, cc))
stands None writable is = absurd cc

way : (size : ℕ) (x : Export) (n : ℕ) (writable : Bool) → n ≡ size → writable ≡ x.writable →
    record (route_of size x) { size = n; writable = writable } ≡ route_of size x
way size x n writable same is =
    ap (λ (m : ℕ). record (route_of size x) { size = m; writable = writable }) same
    ∙ ap (λ (w : Bool). record (route_of size x) { writable = w }) is

pub returns-in-Some : goal.returns-in-Some
returns-in-Some c =
    let places : c.deref.result.now ≡ c.args.self.now.places =
    c.deref.ensures.value ∙ ap (λ (v : GraphValue). v.places) c.self.view_is in
    let at : option_map (λ (x : Export). x.writable) (export_at c.args.self.now.places c.args.e) ≡ Some c.in-Some.writable =
    rw (← places, ← c.from.ensures) (sym c.writable.ensures ∙ c.in-Some.is) in
    let s = stands _ _ at in
    ((s.0, (s.1.0, way c.args.self.now.size s.0 c.self.inside.size c.in-Some.writable (ap (λ (v : GraphValue). v.size) c.self.view_is) s.1.1)), refl)
