-- The way down, node by node from the newest on.
use Rattle.std.proofs.Common.{◌≡◌, ℕ, ◌+◌, ◌<◌, List, [], ◌∷◌, length, true, false, inl, inr, refl, sym, ◌∙◌, ap}
use Rattle.std.specs.Prelude.{Option, Some, None, get_or, reverse, take}
use Rattle.std.proofs.lemmas.List.{reverse-append, take_more}
use Rattle.qs_part.specs.declared.graph.User.{User}
use Rattle.qs_nodes.specs.declared.node.Node.{Node}
use Rattle.qs_nodes.specs.Ways.{child_of, is_next}
use Rattle.qs_exports.specs.declared.export.NewExport.{NewExport}
use Rattle.qs_users.specs.Conflicts.{places_down, users_at, ClashAt, FirstClash}

pub newest_of : {X : Type 0} (xs : List X) (k : ℕ) (x : X) → k < length xs → x ≡ get_or xs k x →
    reverse (take (k + 1) xs) ≡ x ∷ reverse (take k xs)
newest_of xs k x inside here =
    ap reverse (take_more xs k x inside) ∙ reverse-append (take k xs) (get_or xs k x ∷ [])
    ∙ ap (λ y. y ∷ reverse (take k xs)) (sym here)

-- two users conflict here
pub clashes_here : (nodes older : List Node) (exports : List NewExport) (n : Node) (next : Option ℕ)
    (pair : User × User) → is_next n.place next ≡ true → ClashAt (users_at nodes exports n.place) (Some pair) →
    FirstClash nodes exports (places_down (n ∷ older) next) (Some pair)
clashes_here nodes older exports n next pair on clash = rw on (inr (pair, (clash, refl)))

-- none does here, and the way goes on
pub goes_on : (nodes older : List Node) (exports : List NewExport) (n : Node) (next : Option ℕ)
    (r : Option (User × User)) → is_next n.place next ≡ true → ClashAt (users_at nodes exports n.place) None →
    FirstClash nodes exports (places_down older (child_of n.kind)) r →
    FirstClash nodes exports (places_down (n ∷ older) next) r
goes_on nodes older exports n next r on none rest = rw on (inl (none, rest))

-- the node isn't on the way
pub passes_by : (nodes older : List Node) (exports : List NewExport) (n : Node) (next : Option ℕ)
    (r : Option (User × User)) → is_next n.place next ≡ false → FirstClash nodes exports (places_down older next) r →
    FirstClash nodes exports (places_down (n ∷ older) next) r
passes_by nodes older exports n next r off rest = rw off rest
