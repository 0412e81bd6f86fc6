-- Each throttle node's group still stands after one node more, one less, another in its stead, and a change of groups.
use Rattle.std.proofs.Common.{◌≡◌, ℕ, zero, suc, List, [], ◌∷◌, ◌++◌, Bool, true, false, refl, sym, ◌∙◌, ap, subst}
use Rattle.std.specs.Prelude.{◌==◌, Option, Some, None}
use Rattle.std.specs.List.{remove, slice_index_or, slice_set}
use Rattle.std.proofs.lemmas.Bool.{eqb-true}
use Rattle.std.proofs.lemmas.List.{get_or-set_same, get_or-set_other}
use Rattle.std.proofs.lemmas.List.Quantifiers.{position-Some}
use Rattle.qs_nodes.specs.declared.node.Kind.{Kind}
use Rattle.qs_nodes.specs.declared.node.Kind.TheVariants.{File, Raw, Throttle}
use Rattle.qs_nodes.specs.declared.node.Node.{Node}
use Rattle.qs_nodes.specs.Nodes.{first_member, free_slot, has_id, has_slot, is_empty, is_in_group, slot_of}
use Rattle.qs_nodes.specs.Tree.{AllInGroups, InGroup}
use Rattle.qs_nodes.proofs.Finds.{none_behind, none_first}
use Rattle.qs_nodes.proofs.Over.{apart_of}

pub grouped_push : (groups : List (Option (List ℕ))) (nodes : List Node) (m : Node) → AllInGroups groups nodes →
    InGroup groups m.kind →
    AllInGroups groups (nodes ++ m ∷ [])
grouped_push groups [] m a g = (g, record {})
grouped_push groups (x ∷ nodes) m a g = (a.0, grouped_push groups nodes m a.1 g)

pub grouped_remove : (groups : List (Option (List ℕ))) (nodes : List Node) (i : ℕ) → AllInGroups groups nodes →
    AllInGroups groups (remove nodes i)
grouped_remove groups [] zero a = record {}
grouped_remove groups [] (suc i) a = record {}
grouped_remove groups (x ∷ nodes) zero a = a.1
grouped_remove groups (x ∷ nodes) (suc i) a = (a.0, grouped_remove groups nodes i a.1)

pub grouped_set : (groups : List (Option (List ℕ))) (nodes : List Node) (i : ℕ) (m : Node) →
    AllInGroups groups nodes → InGroup groups m.kind →
    AllInGroups groups (slice_set nodes i m)
grouped_set groups [] i m a g = record {}
grouped_set groups (x ∷ nodes) zero m a g = (g, a.1)
grouped_set groups (x ∷ nodes) (suc i) m a g = (a.0, grouped_set groups nodes i m a.1 g)

-- a group of this id is one
held : (id : List ℕ) (group : Option (List ℕ)) → has_id id group ≡ true → is_empty group ≡ false
held id None is = cc
held id (Some own) is = refl

pub slot_held : (groups : List (Option (List ℕ))) (id : List ℕ) (slot : ℕ) → slot_of groups id ≡ Some slot →
    is_empty (slice_index_or groups slot None) ≡ false
slot_held groups id slot is = held id (slice_index_or groups slot None) (position-Some (has_id id) groups slot None is).1

-- one group more
slot_more : (groups : List (Option (List ℕ))) (id : List ℕ) (free s : ℕ) → free_slot groups ≡ Some free →
    is_empty (slice_index_or groups s None) ≡ false → is_empty (slice_index_or (slice_set groups free (Some id)) s None) ≡ false
slot_more groups id free s is there = go (s == free) refl
  where
    go : (t : Bool) → (s == free) ≡ t → is_empty (slice_index_or (slice_set groups free (Some id)) s None) ≡ false
    go true e =
        subst (λ (q : ℕ). is_empty (slice_index_or (slice_set groups free (Some id)) q None) ≡ false) (sym (eqb-true s free e))
        (ap is_empty (get_or-set_same groups free (Some id) None (position-Some is_empty groups free None is).0))
    go false e = ap is_empty (get_or-set_other groups free s (Some id) None (apart_of s free e)) ∙ there

pub grouped_more : (groups : List (Option (List ℕ))) (id : List ℕ) (free : ℕ) (nodes : List Node) →
    free_slot groups ≡ Some free →
    AllInGroups groups nodes → AllInGroups (slice_set groups free (Some id)) nodes
grouped_more groups id free [] is a = record {}
grouped_more groups id free (x ∷ nodes) is a = (go x.kind a.0, grouped_more groups id free nodes is a.1)
  where
    go : (kind : Kind) → InGroup groups kind → InGroup (slice_set groups free (Some id)) kind
    go File g = record {}
    go (Raw child offset) g = record {}
    go (Throttle child own) g = slot_more groups id free own is g

-- one group less, which no node is in
pub grouped_less : (groups : List (Option (List ℕ))) (slot : ℕ) (nodes : List Node) → first_member nodes slot ≡ None →
    AllInGroups groups nodes → AllInGroups (slice_set groups slot None) nodes
grouped_less groups slot [] is a = record {}
grouped_less groups slot (x ∷ nodes) is a =
    (go x.kind (none_first (is_in_group slot) x nodes is) a.0, grouped_less groups slot nodes (none_behind (is_in_group slot) x nodes is) a.1)
  where
    go : (kind : Kind) → has_slot slot kind ≡ false → InGroup groups kind → InGroup (slice_set groups slot None) kind
    go File out g = record {}
    go (Raw child offset) out g = record {}
    go (Throttle child own) out g = ap is_empty (get_or-set_other groups slot own None None (apart_of own slot out)) ∙ g
