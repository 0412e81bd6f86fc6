-- The tree after one node more, one less, or another in its stead.
use Rattle.std.proofs.Common.{◌≡◌, ◌≢◌, ℕ, zero, suc, ◌<◌, ◌≤◌, List, [], ◌∷◌, ◌++◌, length, Bool, true, false, refl, sym, ◌∙◌, ap, subst, arith}
use Rattle.std.specs.Prelude.{◌==◌, Some, None, find}
use Rattle.std.specs.List.{remove, slice_index_or, slice_set}
use Rattle.std.proofs.lemmas.Bool.{eq-eqb}
use Rattle.std.proofs.lemmas.Option.{none-some, same_Some}
use Rattle.qs_nodes.specs.declared.node.Kind.TheVariants.{File}
use Rattle.qs_nodes.specs.declared.node.Node.{Node}
use Rattle.qs_nodes.specs.Nodes.{has_name, has_place, is_over, named}
use Rattle.qs_nodes.specs.Tree.{node_at, IsRoot, IsRooted, StandsOver}
use Rattle.qs_nodes.proofs.Finds.{find_hit, find_miss, none_behind}
use Rattle.qs_nodes.proofs.Over.{back, found_back, named_back, push_over, remove_over, set_over, small_back, AllSmall, AllUse, InStead}

-- the node of a name is found at its place
pub named_total : (size : ℕ) (nodes : List Node) (s : List ℕ) (b : Node) → IsRooted size nodes →
    named nodes s ≡ Some b →
    node_at (back [] nodes) b.place ≡ Some b
named_total size [] s b a at = absurd a
named_total size (root ∷ rest) s b a at = go (has_name s root) refl
  where
    go : (t : Bool) → has_name s root ≡ t → node_at (back (root ∷ []) rest) b.place ≡ Some b
    go true e =
        let is : root ≡ b = same_Some root b (sym (find_hit (has_name s) root rest e) ∙ at) in
        subst (λ (k : Node). node_at (back (root ∷ []) rest) k.place ≡ Some k) is
        (found_back (root ∷ []) rest root.place root a.1 (find_hit (has_place root.place) root [] (eq-eqb root.place root.place refl)))
    go false e = named_back (root ∷ []) rest s b a.1 (sym (find_miss (has_name s) root rest e) ∙ at)

root_small : (size : ℕ) (root : Node) → IsRoot size root → AllSmall size (root ∷ [])
root_small size root r p b at = go (root.place == p) refl
  where
    go : (t : Bool) → (root.place == p) ≡ t → (b.size ≤ size) × (b.depth ≤ 8)
    go true e =
        let is : root ≡ b = same_Some root b (sym (find_hit (has_place p) root [] e) ∙ at) in
        subst (λ (k : Node). (k.size ≤ size) × (k.depth ≤ 8)) is (omega (arith, r.size), omega (arith, r.depth))
    go false e = absurd (none-some b (sym (find_miss (has_place p) root [] e) ∙ at))

pub rooted_small : (size : ℕ) (nodes : List Node) → IsRooted size nodes → AllSmall size (back [] nodes)
rooted_small size [] a = absurd a
rooted_small size (root ∷ rest) a = small_back size (root ∷ []) rest (root_small size root a.0) a.1

pub rooted_push : (size : ℕ) (nodes : List Node) (m : Node) → IsRooted size nodes → StandsOver (back [] nodes) m →
    IsRooted size (nodes ++ m ∷ [])
rooted_push size [] m a s = absurd a
rooted_push size (root ∷ rest) m a s = (a.0, push_over (root ∷ []) rest m a.1 s)

pub rooted_remove : (size : ℕ) (nodes : List Node) (i : ℕ) (n : Node) → i < length nodes →
    slice_index_or nodes i n ≡ n → n.place ≢ 0 →
    find (is_over n.place) nodes ≡ None → IsRooted size nodes → IsRooted size (remove nodes i)
rooted_remove size [] i n inside at upper h a = absurd a
rooted_remove size (root ∷ rest) zero n inside at upper h a = absurd (upper (ap (λ (k : Node). k.place) (sym at) ∙ a.0.place))
rooted_remove size (root ∷ rest) (suc i) n inside at upper h a =
    (a.0, remove_over (root ∷ []) rest i n (omega (arith, inside)) at (none_behind (is_over n.place) root rest h) a.1)

pub rooted_set : (U : ℕ → Type 0) (size : ℕ) (nodes : List Node) (i : ℕ) (n m : Node) → i < length nodes →
    slice_index_or nodes i n ≡ n →
    m.place ≡ n.place → m.name ≡ n.name → (U n.place → (m.size ≡ n.size) × (m.depth ≡ n.depth)) → AllUse U nodes →
    n.kind ≢ File → InStead (back [] nodes) n m → IsRooted size nodes → IsRooted size (slice_set nodes i m)
rooted_set U size [] i n m inside at place name like u upper stead a = absurd a
rooted_set U size (root ∷ rest) zero n m inside at place name like u upper stead a =
    absurd (upper (ap (λ (k : Node). k.kind) (sym at) ∙ a.0.kind))
rooted_set U size (root ∷ rest) (suc i) n m inside at place name like u upper stead a =
    (a.0, set_over U (root ∷ []) rest i n m (omega (arith, inside)) at place name like u.1 stead a.1)
