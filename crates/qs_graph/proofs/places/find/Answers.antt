use Rattle.std.proofs.Common.{◌≡◌, ℕ, ◌≤◌, List, [], ◌∷◌, length, Option, position, subst, arith}
use Rattle.qs_graph.specs.declared.export.Export.{Export}
use Rattle.qs_graph.specs.Exports.{found_at, has_name}
use Rattle.qs_graph.proofs.places.find.Goals as goal

-- a name that isn't empty means the export of that name
by_name : (places : List (Option Export)) (name : List ℕ) (r : Option ℕ) → 1 ≤ length name → r ≡ position (has_name name) places → r ≡ found_at places name
by_name places [] r some is = absurd (omega (arith, some))
by_name places (byte ∷ bytes) r some is = is

pub returns-in_default-clause-found : goal.returns-in_default-clause-found
returns-in_default-clause-found c =
    by_name c.args.places.now c.args.name.now c.first_named.result
    (subst (λ (bytes : List ℕ). 1 ≤ length bytes) c.as_slice.ensures.bytes c.in_default.len_at_least) c.first_named.ensures.first
