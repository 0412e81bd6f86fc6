-- Every operation keeps the size of a node that has a user.
use Rattle.std.proofs.Common.{◌≡◌, ◌≢◌, ℕ, zero, suc, ◌<◌, List, [], ◌∷◌, length, Bool, true, false, refl, sym, ◌∙◌, ap, subst, arith, inl, inr, ◌⊎◌}
use Rattle.std.specs.Prelude.{◌==◌, nat_lt, Option, Some, None, Result, Ok, Err, find, cond, option_map}
use Rattle.std.specs.List.{position_or_len, remove, slice_get, slice_index_or, slice_set}
use Rattle.std.specs.Option.{option_or}
use Rattle.std.proofs.lemmas.Bool.{eqb-true}
use Rattle.std.proofs.lemmas.List.Folds.{find-append, find_at, find_past}
use Rattle.std.proofs.lemmas.Option.{get_or_from_slice_get, none-some, same_Some, slice_get_within}
use Rattle.qs_part.specs.declared.graph.User.TheVariants.{Node as NodeUser, Export as ExportUser}
use Rattle.qs_nodes.specs.declared.node.Kind.TheVariants.{Raw, Throttle}
use Rattle.qs_nodes.specs.declared.node.Node.{Node}
use Rattle.qs_nodes.specs.declared.node.Refused.{Refused}
use Rattle.qs_nodes.specs.declared.node.Refused.TheVariants.{Duplicate, NoNode, NoGroup, OutOfRange, Deep, Full, Root, InUse, OtherKind, OtherFile, Memory}
use Rattle.qs_nodes.specs.Nodes.{first_of, first_user, has_name, has_place, named, shown, user_of}
use Rattle.qs_nodes.specs.Table.{raw, set_node, throttle, with_node, AddsGroup, AddsRaw, AddsThrottle, Deletes, EndsGroup, IsAt, NodesValue, ReopensRaw, ReopensThrottle}
use Rattle.qs_nodes.specs.Tree.{node_at}
use Rattle.qs_nodes.specs.Sizes.{at_place, export_over, KeepsSize}
use Rattle.qs_nodes.proofs.Finds.{find_hit, find_miss}
use Rattle.qs_nodes.proofs.Keeps.{resized_none}

same : (v new : NodesValue) (p : ℕ) → new ≡ v → KeepsSize v new p
same v new p is n at = (n, (subst (λ (w : NodesValue). node_at w.nodes p ≡ Some n) (sym is) at, refl))

with_size : (v : NodesValue) (m : Node) (p : ℕ) → KeepsSize v (with_node v m) p
with_size v m p n at =
    (n, (find-append (has_place p) v.nodes (m ∷ []) ∙ ap (λ (f : Option Node). option_or f (find (has_place p) (m ∷ []))) at, refl))

-- the node at a number is the first of its name
named_of : (v : NodesValue) (name : List ℕ) (i : ℕ) (n : Node) → IsAt v name i n → named v.nodes name ≡ Some n
named_of v name i n at = go (nat_lt (position_or_len (has_name name) v.nodes) (length v.nodes)) at.0
  where
    go : (b : Bool) → cond b (Some (position_or_len (has_name name) v.nodes)) None ≡ Some i →
        named v.nodes name ≡ Some n
    go true is =
        find_at (has_name name) v.nodes
        ∙ ap (slice_get v.nodes) (same_Some (position_or_len (has_name name) v.nodes) i is) ∙ at.1
    go false is = absurd (none-some i is)

find_remove : (test : Node → Bool) (xs : List Node) (i : ℕ) (x : Node) → i < length xs → slice_index_or xs i x ≡ x →
    test x ≡ false →
    find test (remove xs i) ≡ find test xs
find_remove test [] i x inside at miss = absurd (omega (arith, inside))
find_remove test (y ∷ xs) zero x inside at miss = sym (find_miss test y xs (ap test at ∙ miss))
find_remove test (y ∷ xs) (suc i) x inside at miss =
    ap (λ (f : Option Node). cond (test y) (Some y) f) (find_remove test xs i x (omega (arith, inside)) at miss)

-- a node of the same place and size in another's stead
sized_set : (nodes : List Node) (i : ℕ) (n m : Node) (p : ℕ) (k : Node) → i < length nodes →
    slice_index_or nodes i n ≡ n → m.place ≡ n.place →
    m.size ≡ n.size → node_at nodes p ≡ Some k → (l : Node) × ((node_at (slice_set nodes i m) p ≡ Some l) × (l.size ≡ k.size))
sized_set [] i n m p k inside here place size at = absurd (omega (arith, inside))
sized_set (x ∷ nodes) zero n m p k inside here place size at = go (x.place == p) refl
  where
    go : (t : Bool) → (x.place == p) ≡ t → (l : Node) × ((node_at (m ∷ nodes) p ≡ Some l) × (l.size ≡ k.size))
    go true e =
        let is : x ≡ k = same_Some x k (sym (find_hit (has_place p) x nodes e) ∙ at) in (
          m,
          (
            find_hit (has_place p) m nodes (ap (λ (q : ℕ). q == p) (place ∙ ap (λ (z : Node). z.place) (sym here)) ∙ e),
            size ∙ ap (λ (z : Node). z.size) (sym here ∙ is),
          ),
        )
    go false e = (
      k,
      (
        find_miss (has_place p) m nodes (ap (λ (q : ℕ). q == p) (place ∙ ap (λ (z : Node). z.place) (sym here)) ∙ e)
            ∙ sym (find_miss (has_place p) x nodes e) ∙ at,
        refl,
      ),
    )
sized_set (x ∷ nodes) (suc i) n m p k inside here place size at =
    go (x.place == p) refl (sized_set nodes i n m p k (omega (arith, inside)) here place size)
  where
    go : (t : Bool) → (x.place == p) ≡ t →
        (node_at nodes p ≡ Some k → (l : Node) × ((node_at (slice_set nodes i m) p ≡ Some l) × (l.size ≡ k.size))) →
        (l : Node) × ((node_at (x ∷ slice_set nodes i m) p ≡ Some l) × (l.size ≡ k.size))
    go true e more =
        (k, (find_hit (has_place p) x (slice_set nodes i m) e ∙ sym (find_hit (has_place p) x nodes e) ∙ at, refl))
    go false e more =
        let l = more (sym (find_miss (has_place p) x nodes e) ∙ at) in
        (l.0, (find_miss (has_place p) x (slice_set nodes i m) e ∙ l.1.0, l.1.1))

at_inside : (v : NodesValue) (name : List ℕ) (i : ℕ) (n : Node) → IsAt v name i n → i < length v.nodes
at_inside v name i n at = slice_get_within v.nodes i n at.1

at_here : (v : NodesValue) (name : List ℕ) (i : ℕ) (n : Node) → IsAt v name i n → slice_index_or v.nodes i n ≡ n
at_here v name i n at = get_or_from_slice_get v.nodes i n n at.1

set_size : (v : NodesValue) (name : List ℕ) (i : ℕ) (n m : Node) (p : ℕ) → IsAt v name i n → m.place ≡ n.place →
    m.size ≡ n.size →
    KeepsSize v (set_node v i m) p
set_size v name i n m p at place size k found =
    sized_set v.nodes i n m p k (at_inside v name i n at) (at_here v name i n at) place size found

-- the export over the node at a number
over_of : (v : NodesValue) (exports : ℕ → Option (List ℕ)) (name : List ℕ) (i : ℕ) (n : Node) → IsAt v name i n →
    export_over exports v.nodes name ≡ exports n.place
over_of v exports name i n at =
    ap (λ (f : Option Node). at_place exports (option_map (λ (k : Node). k.place) f)) (named_of v name i n at)

no_user : (nodes : List Node) (p : ℕ) (export : Option (List ℕ)) → first_user nodes p ≡ None → export ≡ None →
    user_of nodes p export ≡ None
no_user nodes p export alone none =
    ap (λ (f : Option Node). first_of (option_map (λ (k : Node). NodeUser k.name) f) (option_map ExportUser export)) alone
    ∙ ap (λ (e : Option (List ℕ)). option_map ExportUser e) none

-- a node that has no user isn't at a place that has one
elsewhere : (nodes : List Node) (exports : ℕ → Option (List ℕ)) (n : Node) (p : ℕ) →
    user_of nodes n.place (exports n.place) ≡ None →
    user_of nodes p (exports p) ≢ None → has_place p n ≡ false
elsewhere nodes exports n p alone used = go (n.place == p) refl
  where
    go : (t : Bool) → (n.place == p) ≡ t → (n.place == p) ≡ false
    go true e = absurd (used (subst (λ (q : ℕ). user_of nodes q (exports q) ≡ None) (eqb-true n.place p e) alone))
    go false e = e

pub raw_sizes : (v new : NodesValue) (name child : List ℕ) (offset : ℕ) (size : Option ℕ) (read_only : Bool) (r : Result ℕ Refused) →
    AddsRaw v name child offset size read_only r new → (p : ℕ) → KeepsSize v new p
raw_sizes v new name child offset size read_only (Err (Duplicate q)) a p = same v new p a.1.2
raw_sizes v new name child offset size read_only (Err (NoNode m)) a p = same v new p a.3
raw_sizes v new name child offset size read_only (Err (OutOfRange m)) a p = same v new p a.1.3
raw_sizes v new name child offset size read_only (Err Full) a p = same v new p a.1.3
raw_sizes v new name child offset size read_only (Err Memory) a p = same v new p a.2.3
raw_sizes v new name child offset size read_only (Err NoGroup) a p = absurd a
raw_sizes v new name child offset size read_only (Err Deep) a p = absurd a
raw_sizes v new name child offset size read_only (Err Root) a p = absurd a
raw_sizes v new name child offset size read_only (Err (InUse u)) a p = absurd a
raw_sizes v new name child offset size read_only (Err OtherKind) a p = absurd a
raw_sizes v new name child offset size read_only (Err OtherFile) a p = absurd a
raw_sizes v new name child offset size read_only (Ok place) (below, (over, lies, free, is)) p =
    subst (λ (w : NodesValue). KeepsSize v w p) (sym is) (with_size v (raw name place below offset size read_only) p)

pub throttle_sizes : (v new : NodesValue) (name child group : List ℕ) (read_only : Bool) (r : Result ℕ Refused) →
    AddsThrottle v name child group read_only r new → (p : ℕ) → KeepsSize v new p
throttle_sizes v new name child group read_only (Err (Duplicate q)) a p = same v new p a.1.2
throttle_sizes v new name child group read_only (Err (NoNode m)) a p = same v new p a.3
throttle_sizes v new name child group read_only (Err NoGroup) a p = same v new p a.1.2
throttle_sizes v new name child group read_only (Err Deep) a p = same v new p a.2.2
throttle_sizes v new name child group read_only (Err Full) a p = same v new p a.2.3
throttle_sizes v new name child group read_only (Err Memory) a p = same v new p a.3.3
throttle_sizes v new name child group read_only (Err (OutOfRange m)) a p = absurd a
throttle_sizes v new name child group read_only (Err Root) a p = absurd a
throttle_sizes v new name child group read_only (Err (InUse u)) a p = absurd a
throttle_sizes v new name child group read_only (Err OtherKind) a p = absurd a
throttle_sizes v new name child group read_only (Err OtherFile) a p = absurd a
throttle_sizes v new name child group read_only (Ok place) (below, slot, (member, deep, free, is)) p =
    subst (λ (w : NodesValue). KeepsSize v w p) (sym is) (with_size v (throttle name place below slot read_only) p)

pub deletes_sizes : (v new : NodesValue) (exports : ℕ → Option (List ℕ)) (name : List ℕ) (r : Result Unit Refused) →
    Deletes v name (export_over exports v.nodes name) r new → (p : ℕ) → user_of v.nodes p (exports p) ≢ None → KeepsSize v new p
deletes_sizes v new exports name (Err (NoNode m)) a p used = same v new p a.2
deletes_sizes v new exports name (Err Root) a p used = same v new p a.2.2
deletes_sizes v new exports name (Err (InUse (NodeUser m))) a p used = same v new p a.3.3
deletes_sizes v new exports name (Err (InUse (ExportUser m))) a p used = same v new p a.2.3
deletes_sizes v new exports name (Err (Duplicate q)) a p used = absurd a
deletes_sizes v new exports name (Err (OutOfRange q)) a p used = absurd a
deletes_sizes v new exports name (Err NoGroup) a p used = absurd a
deletes_sizes v new exports name (Err Deep) a p used = absurd a
deletes_sizes v new exports name (Err Full) a p used = absurd a
deletes_sizes v new exports name (Err Memory) a p used = absurd a
deletes_sizes v new exports name (Err OtherKind) a p used = absurd a
deletes_sizes v new exports name (Err OtherFile) a p used = absurd a
deletes_sizes v new exports name (Ok done) (i, n, (upper, alone, none, is)) p used =
    let nobody = no_user v.nodes n.place (exports n.place) alone (sym (over_of v exports name i n upper.0) ∙ none) in
    let away : has_place p n ≡ false = elsewhere v.nodes exports n p nobody used in
    subst (λ (w : NodesValue). KeepsSize v w p) (sym is) (λ k at.
    (k, (find_remove (has_place p) v.nodes i n (at_inside v name i n upper.0) (at_here v name i n upper.0) away ∙ at, refl)))

pub reopens_sizes : (v new : NodesValue) (exports : ℕ → Option (List ℕ)) (name child : List ℕ) (offset : ℕ) (size : Option ℕ) (r : Result Unit Refused) →
    ReopensRaw v name child offset size (export_over exports v.nodes name) r new → (p : ℕ) → user_of v.nodes p (exports p) ≢ None → KeepsSize v new p
reopens_sizes v new exports name child offset size (Err (NoNode m)) a p used = same v new p a.1
reopens_sizes v new exports name child offset size (Err OtherKind) a p used = same v new p a.3.2
reopens_sizes v new exports name child offset size (Err OtherFile) a p used = same v new p a.4.3
reopens_sizes v new exports name child offset size (Err (OutOfRange m)) a p used = same v new p a.3.4
reopens_sizes v new exports name child offset size (Err (InUse u)) a p used = same v new p a.3.2
reopens_sizes v new exports name child offset size (Err (Duplicate q)) a p used = absurd a
reopens_sizes v new exports name child offset size (Err NoGroup) a p used = absurd a
reopens_sizes v new exports name child offset size (Err Deep) a p used = absurd a
reopens_sizes v new exports name child offset size (Err Full) a p used = absurd a
reopens_sizes v new exports name child offset size (Err Root) a p used = absurd a
reopens_sizes v new exports name child offset size (Err Memory) a p used = absurd a
reopens_sizes v new exports name child offset size (Ok done) (i, n, below, (at, none, is)) p used =
    subst (λ (w : NodesValue). KeepsSize v w p) (sym is)
    (go (resized_none v.nodes n (shown below.size offset size) (export_over exports v.nodes name) none))
  where
    m : Node
    m = record n { size = shown below.size offset size; kind = Raw below.place offset }

    go : (shown below.size offset size ≡ n.size) ⊎ (user_of v.nodes n.place (export_over exports v.nodes name) ≡ None) → KeepsSize v (set_node v i m) p
    go (inl same_size) = set_size v name i n m p at.0.0 refl same_size
    go (inr alone) = λ k found.
        let away : has_place p n ≡ false =
        elsewhere v.nodes exports n p (ap (user_of v.nodes n.place) (sym (over_of v exports name i n at.0.0)) ∙ alone) used in
        (k, (find_past (has_place p) v.nodes i m n (ap (has_place p) (at_here v name i n at.0.0) ∙ away) away ∙ found, refl))

pub rethrottles_sizes : (v new : NodesValue) (name child group : List ℕ) (r : Result Unit Refused) →
    ReopensThrottle v name child group r new → (p : ℕ) → KeepsSize v new p
rethrottles_sizes v new name child group (Err (NoNode m)) a p = same v new p a.1
rethrottles_sizes v new name child group (Err OtherKind) a p = same v new p a.3.2
rethrottles_sizes v new name child group (Err OtherFile) a p = same v new p a.4.3
rethrottles_sizes v new name child group (Err NoGroup) a p = same v new p a.3.2
rethrottles_sizes v new name child group (Err (Duplicate q)) a p = absurd a
rethrottles_sizes v new name child group (Err (OutOfRange q)) a p = absurd a
rethrottles_sizes v new name child group (Err (InUse u)) a p = absurd a
rethrottles_sizes v new name child group (Err Deep) a p = absurd a
rethrottles_sizes v new name child group (Err Full) a p = absurd a
rethrottles_sizes v new name child group (Err Root) a p = absurd a
rethrottles_sizes v new name child group (Err Memory) a p = absurd a
rethrottles_sizes v new name child group (Ok done) (i, n, below, slot, (at, free, is)) p =
    subst (λ (w : NodesValue). KeepsSize v w p) (sym is)
    (set_size v name i n (record n { kind = Throttle below.place slot }) p at.0.0 refl refl)

pub adds_group_sizes : (v new : NodesValue) (id : List ℕ) (r : Result ℕ Refused) → AddsGroup v id r new → (p : ℕ) →
    KeepsSize v new p
adds_group_sizes v new id (Err (Duplicate q)) a p = same v new p a.1
adds_group_sizes v new id (Err Full) a p = same v new p a.2
adds_group_sizes v new id (Err (NoNode m)) a p = absurd a
adds_group_sizes v new id (Err NoGroup) a p = absurd a
adds_group_sizes v new id (Err (OutOfRange m)) a p = absurd a
adds_group_sizes v new id (Err Deep) a p = absurd a
adds_group_sizes v new id (Err Root) a p = absurd a
adds_group_sizes v new id (Err (InUse u)) a p = absurd a
adds_group_sizes v new id (Err OtherKind) a p = absurd a
adds_group_sizes v new id (Err OtherFile) a p = absurd a
adds_group_sizes v new id (Err Memory) a p = absurd a
adds_group_sizes v new id (Ok slot) a p = subst (λ (w : NodesValue). KeepsSize v w p) (sym a.2) (λ n at. (n, (at, refl)))

pub ends_group_sizes : (v new : NodesValue) (id : List ℕ) (r : Result Unit Refused) → EndsGroup v id r new → (p : ℕ) →
    KeepsSize v new p
ends_group_sizes v new id (Err NoGroup) a p = same v new p a.1
ends_group_sizes v new id (Err (InUse (NodeUser m))) a p = same v new p a.2.3
ends_group_sizes v new id (Err (InUse (ExportUser m))) a p = absurd a
ends_group_sizes v new id (Err (Duplicate q)) a p = absurd a
ends_group_sizes v new id (Err (NoNode m)) a p = absurd a
ends_group_sizes v new id (Err (OutOfRange m)) a p = absurd a
ends_group_sizes v new id (Err Deep) a p = absurd a
ends_group_sizes v new id (Err Full) a p = absurd a
ends_group_sizes v new id (Err Root) a p = absurd a
ends_group_sizes v new id (Err OtherKind) a p = absurd a
ends_group_sizes v new id (Err OtherFile) a p = absurd a
ends_group_sizes v new id (Err Memory) a p = absurd a
ends_group_sizes v new id (Ok done) a p = subst (λ (w : NodesValue). KeepsSize v w p) (sym a.1.2) (λ n at. (n, (at, refl)))
