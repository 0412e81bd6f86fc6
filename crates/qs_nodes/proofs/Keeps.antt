-- Every operation keeps the tree.
use Rattle.std.proofs.Common.{◌≡◌, ◌≢◌, ℕ, ◌^◌, ◌<◌, List, [], length, Bool, true, false, refl, sym, ◌∙◌, ap, subst, arith, inl, inr, ◌⊎◌}
use Rattle.std.specs.Prelude.{◌==◌, Option, Some, None, Result, Ok, Err, cond, option_map}
use Rattle.std.specs.List.{slice_index_or, slice_set}
use Rattle.std.proofs.lemmas.Bool.{eqb-true}
use Rattle.std.proofs.lemmas.List.{length-replicate, length-set}
use Rattle.std.proofs.lemmas.Option.{get_or_from_slice_get, none-some, same_Some, slice_get_within}
use Rattle.qs_part.specs.declared.graph.User.TheVariants.{Node as NodeUser, Export as ExportUser}
use Rattle.qs_nodes.specs.declared.node.Kind.{Kind}
use Rattle.qs_nodes.specs.declared.node.Kind.TheVariants.{File, Raw, Throttle}
use Rattle.qs_nodes.specs.declared.node.Node.{Node}
use Rattle.qs_nodes.specs.declared.node.Refused.{Refused}
use Rattle.qs_nodes.specs.declared.node.Refused.TheVariants.{Duplicate, NoNode, NoGroup, OutOfRange, Deep, Full, Root, InUse, OtherKind, OtherFile, Memory}
use Rattle.qs_nodes.specs.Nodes.{first_of, first_user, has_name, has_place, named, raw_child, resized_user, shown, throttle_child, user_of, Lies, LowestFree}
use Rattle.qs_nodes.specs.Table.{fresh, raw, set_node, throttle, with_group, AddsGroup, AddsRaw, AddsThrottle, Deletes, EndsGroup, IsAt, NodesValue, ReopensRaw, ReopensThrottle}
use Rattle.qs_nodes.specs.Tree.{node_at, AllInGroups, InGroup, IsTree, Shows, StandsOver}
use Rattle.qs_nodes.proofs.Finds.{none_of_any}
use Rattle.qs_nodes.proofs.Over.{all_anywhere, all_elsewhere, back, none_back, Anywhere, Elsewhere, InStead}
use Rattle.qs_nodes.proofs.Groups.{grouped_less, grouped_more, grouped_push, grouped_remove, grouped_set, slot_held}
use Rattle.qs_nodes.proofs.Rooted.{named_total, rooted_push, rooted_remove, rooted_set, rooted_small}

same : (v new : NodesValue) → new ≡ v → IsTree v → IsTree new
same v new is t = subst IsTree (sym is) t

raw_stands : (v : NodesValue) (name : List ℕ) (child : List ℕ) (place : ℕ) (below : Node) (offset : ℕ) (size : Option ℕ) (read_only : Bool) →
    named v.nodes name ≡ None → named v.nodes child ≡ Some below → Lies below.size offset size → LowestFree v.nodes (Some place) →
    IsTree v → StandsOver (back [] v.nodes) (raw name place below offset size read_only)
raw_stands v name child place below offset size read_only new at lies free t =
    let found = named_total v.size v.nodes child below t.rooted at in
    record {
      place = free.0;
      free = none_back (has_place place) [] v.nodes refl (none_of_any (has_place place) v.nodes free.1);
      name = none_back (has_name name) [] v.nodes refl new;
      depth = (rooted_small v.size v.nodes t.rooted below.place below found).1;
      shows = (below, (found, lies.1, refl));
    }

throttle_stands : (v : NodesValue) (name : List ℕ) (child : List ℕ) (place : ℕ) (below : Node) (slot : ℕ) (read_only : Bool) →
    named v.nodes name ≡ None → named v.nodes child ≡ Some below → below.depth < 8 → LowestFree v.nodes (Some place) →
    IsTree v → StandsOver (back [] v.nodes) (throttle name place below slot read_only)
throttle_stands v name child place below slot read_only new at deep free t =
    let found = named_total v.size v.nodes child below t.rooted at in
    record {
      place = free.0;
      free = none_back (has_place place) [] v.nodes refl (none_of_any (has_place place) v.nodes free.1);
      name = none_back (has_name name) [] v.nodes refl new;
      depth = omega (arith, deep);
      shows = (below, (found, refl, refl));
    }

pub adds_raw : (v new : NodesValue) (name child : List ℕ) (offset : ℕ) (size : Option ℕ) (read_only : Bool) (r : Result ℕ Refused) →
    AddsRaw v name child offset size read_only r new → IsTree v → IsTree new
adds_raw v new name child offset size read_only (Err (Duplicate p)) a t = same v new a.1.2 t
adds_raw v new name child offset size read_only (Err (NoNode m)) a t = same v new a.3 t
adds_raw v new name child offset size read_only (Err (OutOfRange m)) a t = same v new a.1.3 t
adds_raw v new name child offset size read_only (Err Full) a t = same v new a.1.3 t
adds_raw v new name child offset size read_only (Err Memory) a t = same v new a.2.3 t
adds_raw v new name child offset size read_only (Err NoGroup) a t = absurd a
adds_raw v new name child offset size read_only (Err Deep) a t = absurd a
adds_raw v new name child offset size read_only (Err Root) a t = absurd a
adds_raw v new name child offset size read_only (Err (InUse u)) a t = absurd a
adds_raw v new name child offset size read_only (Err OtherKind) a t = absurd a
adds_raw v new name child offset size read_only (Err OtherFile) a t = absurd a
adds_raw v new name child offset size read_only (Ok place) (below, (over, lies, free, is)) t =
    subst IsTree (sym is) (record {
      whole = t.whole;
      slots = t.slots;
      rooted = rooted_push v.size v.nodes (raw name place below offset size read_only) t.rooted
          (raw_stands v name child place below offset size read_only over.0 over.1 lies free t);
      grouped = grouped_push v.groups v.nodes (raw name place below offset size read_only) t.grouped (record {});
    })

pub adds_throttle : (v new : NodesValue) (name child group : List ℕ) (read_only : Bool) (r : Result ℕ Refused) →
    AddsThrottle v name child group read_only r new → IsTree v → IsTree new
adds_throttle v new name child group read_only (Err (Duplicate p)) a t = same v new a.1.2 t
adds_throttle v new name child group read_only (Err (NoNode m)) a t = same v new a.3 t
adds_throttle v new name child group read_only (Err NoGroup) a t = same v new a.1.2 t
adds_throttle v new name child group read_only (Err Deep) a t = same v new a.2.2 t
adds_throttle v new name child group read_only (Err Full) a t = same v new a.2.3 t
adds_throttle v new name child group read_only (Err Memory) a t = same v new a.3.3 t
adds_throttle v new name child group read_only (Err (OutOfRange m)) a t = absurd a
adds_throttle v new name child group read_only (Err Root) a t = absurd a
adds_throttle v new name child group read_only (Err (InUse u)) a t = absurd a
adds_throttle v new name child group read_only (Err OtherKind) a t = absurd a
adds_throttle v new name child group read_only (Err OtherFile) a t = absurd a
adds_throttle v new name child group read_only (Ok place) (below, slot, (member, deep, free, is)) t =
    subst IsTree (sym is) (record {
      whole = t.whole;
      slots = t.slots;
      rooted = rooted_push v.size v.nodes (throttle name place below slot read_only) t.rooted
          (throttle_stands v name child place below slot read_only member.0.0 member.0.1 deep free t);
      grouped = grouped_push v.groups v.nodes (throttle name place below slot read_only) t.grouped (slot_held v.groups group slot member.1);
    })

-- the node of a name is at its number
at_inside : (v : NodesValue) (name : List ℕ) (i : ℕ) (n : Node) → IsAt v name i n → i < length v.nodes
at_inside v name i n at = slice_get_within v.nodes i n at.1

at_here : (v : NodesValue) (name : List ℕ) (i : ℕ) (n : Node) → IsAt v name i n → slice_index_or v.nodes i n ≡ n
at_here v name i n at = get_or_from_slice_get v.nodes i n n at.1

pub deletes : (v new : NodesValue) (name : List ℕ) (export : Option (List ℕ)) (r : Result Unit Refused) →
    Deletes v name export r new → IsTree v → IsTree new
deletes v new name export (Err (NoNode m)) a t = same v new a.2 t
deletes v new name export (Err Root) a t = same v new a.2.2 t
deletes v new name export (Err (InUse (NodeUser m))) a t = same v new a.3.3 t
deletes v new name export (Err (InUse (ExportUser m))) a t = same v new a.2.3 t
deletes v new name export (Err (Duplicate p)) a t = absurd a
deletes v new name export (Err (OutOfRange p)) a t = absurd a
deletes v new name export (Err NoGroup) a t = absurd a
deletes v new name export (Err Deep) a t = absurd a
deletes v new name export (Err Full) a t = absurd a
deletes v new name export (Err Memory) a t = absurd a
deletes v new name export (Err OtherKind) a t = absurd a
deletes v new name export (Err OtherFile) a t = absurd a
deletes v new name export (Ok done) (i, n, (upper, alone, none, is)) t =
    subst IsTree (sym is) (record {
      whole = t.whole;
      slots = t.slots;
      rooted = rooted_remove v.size v.nodes i n (at_inside v name i n upper.0) (at_here v name i n upper.0) upper.1 alone t.rooted;
      grouped = grouped_remove v.groups v.nodes i t.grouped;
    })

-- another part of the same child
stead_raw : (total : List Node) (n below : Node) (offset : ℕ) (size : Option ℕ) → raw_child n.kind ≡ Some below.place →
    node_at total below.place ≡ Some below → Lies below.size offset size →
    InStead total n (record n { size = shown below.size offset size; kind = Raw below.place offset })
stead_raw total n below offset size child found lies before inside s = record {
  place = s.place;
  free = s.free;
  name = s.name;
  depth = s.depth;
  shows = go n.kind child s.shows;
}
  where
    go : (kind : Kind) → raw_child kind ≡ Some below.place → Shows before n kind →
        Shows before (record n { size = shown below.size offset size; kind = Raw below.place offset }) (Raw below.place offset)
    go File is h = absurd h
    go (Throttle c slot) is h = absurd (none-some below.place is)
    go (Raw c own) is h =
        let at : node_at before below.place ≡ Some h.0 = subst (λ (q : ℕ). node_at before q ≡ Some h.0) (same_Some c below.place is) h.1.0 in
        let whole : h.0.size ≡ below.size =
        ap (λ (k : Node). k.size) (same_Some h.0 below (sym (inside below.place h.0 at) ∙ found)) in
        (h.0, (at, omega (arith, lies.1, whole), h.1.2))

-- another group over the same child
stead_throttle : (total : List Node) (n below : Node) (slot : ℕ) → throttle_child n.kind ≡ Some below.place →
    InStead total n (record n { kind = Throttle below.place slot })
stead_throttle total n below slot child before inside s = record {
  place = s.place;
  free = s.free;
  name = s.name;
  depth = s.depth;
  shows = go n.kind child s.shows;
}
  where
    go : (kind : Kind) → throttle_child kind ≡ Some below.place → Shows before n kind →
        Shows before (record n { kind = Throttle below.place slot }) (Throttle below.place slot)
    go File is h = absurd h
    go (Raw c own) is h = absurd (none-some below.place is)
    go (Throttle c own) is h =
        (h.0, (subst (λ (q : ℕ). node_at before q ≡ Some h.0) (same_Some c below.place is) h.1.0, h.1.1, h.1.2))

-- a node without a user has none among the nodes
pub alone_of : (nodes : List Node) (p : ℕ) (export : Option (List ℕ)) → user_of nodes p export ≡ None →
    first_user nodes p ≡ None
alone_of nodes p export is = go (first_user nodes p) refl is
  where
    go : (found : Option Node) → first_user nodes p ≡ found → user_of nodes p export ≡ None → first_user nodes p ≡ None
    go None e is = e
    go (Some m) e is = absurd (none-some (NodeUser m.name) (sym is ∙ ap (λ (f : Option Node). first_of (option_map (λ (k : Node). NodeUser k.name) f) (option_map ExportUser export)) e))

-- a node of which another part is shown has no user, or keeps its size
pub resized_none : (nodes : List Node) (n : Node) (bytes : ℕ) (export : Option (List ℕ)) →
    resized_user nodes n bytes export ≡ None →
    (bytes ≡ n.size) ⊎ (user_of nodes n.place export ≡ None)
resized_none nodes n bytes export is = go (bytes == n.size) refl is
  where
    go : (b : Bool) → (bytes == n.size) ≡ b → cond b None (user_of nodes n.place export) ≡ None →
        (bytes ≡ n.size) ⊎ (user_of nodes n.place export ≡ None)
    go true e is = inl (eqb-true bytes n.size e)
    go false e is = inr is

raw_set : (v : NodesValue) (name : List ℕ) (i : ℕ) (n m : Node) → IsAt v name i n → m.place ≡ n.place →
    m.name ≡ n.name →
    m.depth ≡ n.depth → n.kind ≢ File → InStead (back [] v.nodes) n m → InGroup v.groups m.kind → IsTree v →
    (m.size ≡ n.size) ⊎ (first_user v.nodes n.place ≡ None) → IsTree (set_node v i m)
raw_set v name i n m at place own depth upper stead group t (inl size) = record {
  whole = t.whole;
  slots = t.slots;
  rooted = rooted_set Anywhere v.size v.nodes i n m (at_inside v name i n at) (at_here v name i n at) place own (λ u. (size, depth))
      (all_anywhere v.nodes) upper stead t.rooted;
  grouped = grouped_set v.groups v.nodes i m t.grouped group;
}
raw_set v name i n m at place own depth upper stead group t (inr alone) = record {
  whole = t.whole;
  slots = t.slots;
  rooted = rooted_set (Elsewhere n.place) v.size v.nodes i n m (at_inside v name i n at) (at_here v name i n at) place own (λ u. absurd (u refl))
      (all_elsewhere n.place v.nodes alone) upper stead t.rooted;
  grouped = grouped_set v.groups v.nodes i m t.grouped group;
}

raw_upper : (n : Node) (child : ℕ) → raw_child n.kind ≡ Some child → n.kind ≢ File
raw_upper n child is file = none-some child (sym (ap raw_child file) ∙ is)

throttle_upper : (n : Node) (child : ℕ) → throttle_child n.kind ≡ Some child → n.kind ≢ File
throttle_upper n child is file = none-some child (sym (ap throttle_child file) ∙ is)

alone_or_same : (nodes : List Node) (n : Node) (bytes : ℕ) (export : Option (List ℕ)) →
    (bytes ≡ n.size) ⊎ (user_of nodes n.place export ≡ None) →
    (bytes ≡ n.size) ⊎ (first_user nodes n.place ≡ None)
alone_or_same nodes n bytes export (inl is) = inl is
alone_or_same nodes n bytes export (inr is) = inr (alone_of nodes n.place export is)

pub reopens_raw : (v new : NodesValue) (name child : List ℕ) (offset : ℕ) (size : Option ℕ) (export : Option (List ℕ)) (r : Result Unit Refused) →
    ReopensRaw v name child offset size export r new → IsTree v → IsTree new
reopens_raw v new name child offset size export (Err (NoNode m)) a t = same v new a.1 t
reopens_raw v new name child offset size export (Err OtherKind) a t = same v new a.3.2 t
reopens_raw v new name child offset size export (Err OtherFile) a t = same v new a.4.3 t
reopens_raw v new name child offset size export (Err (OutOfRange m)) a t = same v new a.3.4 t
reopens_raw v new name child offset size export (Err (InUse u)) a t = same v new a.3.2 t
reopens_raw v new name child offset size export (Err (Duplicate p)) a t = absurd a
reopens_raw v new name child offset size export (Err NoGroup) a t = absurd a
reopens_raw v new name child offset size export (Err Deep) a t = absurd a
reopens_raw v new name child offset size export (Err Full) a t = absurd a
reopens_raw v new name child offset size export (Err Root) a t = absurd a
reopens_raw v new name child offset size export (Err Memory) a t = absurd a
reopens_raw v new name child offset size export (Ok done) (i, n, below, (at, none, is)) t =
    let found = named_total v.size v.nodes child below t.rooted at.0.1 in
    let m : Node = record n { size = shown below.size offset size; kind = Raw below.place offset } in
    subst IsTree (sym is)
    (raw_set v name i n m at.0.0 refl refl refl (raw_upper n below.place at.1)
    (stead_raw (back [] v.nodes) n below offset size at.1 found at.2) (record {}) t
    (alone_or_same v.nodes n (shown below.size offset size) export (resized_none v.nodes n (shown below.size offset size) export none)))

pub reopens_throttle : (v new : NodesValue) (name child group : List ℕ) (r : Result Unit Refused) →
    ReopensThrottle v name child group r new → IsTree v → IsTree new
reopens_throttle v new name child group (Err (NoNode m)) a t = same v new a.1 t
reopens_throttle v new name child group (Err OtherKind) a t = same v new a.3.2 t
reopens_throttle v new name child group (Err OtherFile) a t = same v new a.4.3 t
reopens_throttle v new name child group (Err NoGroup) a t = same v new a.3.2 t
reopens_throttle v new name child group (Err (Duplicate p)) a t = absurd a
reopens_throttle v new name child group (Err (OutOfRange p)) a t = absurd a
reopens_throttle v new name child group (Err (InUse u)) a t = absurd a
reopens_throttle v new name child group (Err Deep) a t = absurd a
reopens_throttle v new name child group (Err Full) a t = absurd a
reopens_throttle v new name child group (Err Root) a t = absurd a
reopens_throttle v new name child group (Err Memory) a t = absurd a
reopens_throttle v new name child group (Ok done) (i, n, below, slot, (at, free, is)) t =
    subst IsTree (sym is)
    (raw_set v name i n (record n { kind = Throttle below.place slot }) at.0.0 refl refl refl (throttle_upper n below.place at.1)
    (stead_throttle (back [] v.nodes) n below slot at.1) (slot_held v.groups group slot free) t (inl refl))

regrouped : (v : NodesValue) (slot : ℕ) (group : Option (List ℕ)) → IsTree v →
    AllInGroups (slice_set v.groups slot group) v.nodes →
    IsTree (with_group v slot group)
regrouped v slot group t grouped = record {
  whole = t.whole;
  slots = length-set v.groups slot group ∙ t.slots;
  rooted = t.rooted;
  grouped = grouped;
}

pub adds_group : (v new : NodesValue) (id : List ℕ) (r : Result ℕ Refused) → AddsGroup v id r new → IsTree v →
    IsTree new
adds_group v new id (Err (Duplicate p)) a t = same v new a.1 t
adds_group v new id (Err Full) a t = same v new a.2 t
adds_group v new id (Err (NoNode m)) a t = absurd a
adds_group v new id (Err NoGroup) a t = absurd a
adds_group v new id (Err (OutOfRange m)) a t = absurd a
adds_group v new id (Err Deep) a t = absurd a
adds_group v new id (Err Root) a t = absurd a
adds_group v new id (Err (InUse u)) a t = absurd a
adds_group v new id (Err OtherKind) a t = absurd a
adds_group v new id (Err OtherFile) a t = absurd a
adds_group v new id (Err Memory) a t = absurd a
adds_group v new id (Ok slot) a t = subst IsTree (sym a.2) (regrouped v slot (Some id) t (grouped_more v.groups id slot v.nodes a.1 t.grouped))

pub ends_group : (v new : NodesValue) (id : List ℕ) (r : Result Unit Refused) → EndsGroup v id r new → IsTree v →
    IsTree new
ends_group v new id (Err NoGroup) a t = same v new a.1 t
ends_group v new id (Err (InUse (NodeUser m))) a t = same v new a.2.3 t
ends_group v new id (Err (InUse (ExportUser m))) a t = absurd a
ends_group v new id (Err (Duplicate p)) a t = absurd a
ends_group v new id (Err (NoNode m)) a t = absurd a
ends_group v new id (Err (OutOfRange m)) a t = absurd a
ends_group v new id (Err Deep) a t = absurd a
ends_group v new id (Err Full) a t = absurd a
ends_group v new id (Err Root) a t = absurd a
ends_group v new id (Err OtherKind) a t = absurd a
ends_group v new id (Err OtherFile) a t = absurd a
ends_group v new id (Err Memory) a t = absurd a
ends_group v new id (Ok done) a t = subst IsTree (sym a.1.2) (regrouped v a.0 None t (grouped_less v.groups a.0 v.nodes a.1.1 t.grouped))

pub fresh_tree : (size : ℕ) (file : List ℕ) (read_only : Bool) → size < 2 ^ 64 → IsTree (fresh size file read_only)
fresh_tree size file read_only whole = record {
  whole = whole;
  slots = length-replicate 16 (let group : Option (List ℕ) = None in group);
  rooted = (record { place = refl; size = refl; depth = refl; kind = refl }, record {});
  grouped = (record {}, record {});
}
