-- Every walk down stays inside the nodes that it meets.
use Rattle.std.proofs.Common.{◌≡◌, ℕ, zero, suc, ◌+◌, ◌^◌, ◌<◌, ◌≤◌, List, [], ◌∷◌, length, drop, Bool, true, false, refl, sym, ◌∙◌, ap, subst, arith}
use Rattle.std.specs.Prelude.{◌==◌, Option, Some, None, option_map, if◌then◌else◌}
use Rattle.std.specs.List.{slice_index_or}
use Rattle.std.proofs.lemmas.Option.{none-some, same_Some}
use Rattle.qs_nodes.specs.declared.node.Kind.{Kind}
use Rattle.qs_nodes.specs.declared.node.Kind.TheVariants.{File, Raw, Throttle}
use Rattle.qs_nodes.specs.declared.node.Node.{Node}
use Rattle.qs_nodes.specs.declared.way.WayDown.{WayDown}
use Rattle.qs_nodes.specs.declared.walk.Walk.{Walk}
use Rattle.qs_nodes.specs.Nodes.{has_place}
use Rattle.qs_nodes.specs.Tree.{node_at, AllOver, IsRoot, IsRooted, Shows, StandsOver}
use Rattle.qs_nodes.specs.Ways.{walk_begun, child_of, first_read_only, is_next, met, walked_past, through, walked, way_from, CanPass, FitsWay}
use Rattle.qs_nodes.proofs.Finds.{find_hit, find_miss}
use Rattle.qs_nodes.proofs.Over.{back, found_back, small_more, AllSmall}
use Rattle.qs_nodes.proofs.Rooted.{rooted_small}

-- the way so far lies inside the node that the walk goes on to, or inside the image
abbrev pub Lying : ℕ → List Node → Option ℕ → WayDown → Type 0
Lying size acc None way = (way.offset + way.size ≤ size) × (way.count ≤ 8)
Lying size acc (Some p) way = (b : Node) × ((node_at acc p ≡ Some b) × (way.offset + way.size ≤ b.size) × (way.count + b.depth ≤ 8))

through_lies : (size : ℕ) (acc : List Node) (x : Node) (kind : Kind) (way : WayDown) (r : Option (List ℕ)) →
    Shows acc x kind →
    way.offset + way.size ≤ x.size → way.count + x.depth ≤ 8 →
    Lying size acc (child_of kind) (record (through kind x.place way) { read_only = r })
through_lies size acc x File way r s inside deep = absurd s
through_lies size acc x (Raw child offset) way r s inside deep =
    (s.0, (s.1.0, omega (arith, inside, s.1.1), omega (arith, deep, s.1.2)))
through_lies size acc x (Throttle child slot) way r s inside deep =
    (s.0, (s.1.0, omega (arith, inside, s.1.1), omega (arith, deep, s.1.2)))

-- after a node it lies inside that node's child
pub passed_lies : (size : ℕ) (acc : List Node) (x : Node) (next : Option ℕ) (way : WayDown) → StandsOver acc x →
    Lying size (x ∷ acc) next way →
    Lying size acc (walked_past x (record { next = next; way = way })).next (walked_past x (record { next = next; way = way })).way
passed_lies size acc x None way s h = h
passed_lies size acc x (Some p) way s (b, (at, inside, deep)) = go (x.place == p) refl
  where
    both : Bool → Walk
    both t = if t then record { next = child_of x.kind; way = met x way } else record { next = Some p; way = way }

    go : (t : Bool) → (x.place == p) ≡ t → Lying size acc (both (x.place == p)).next (both (x.place == p)).way
    go true e =
        let is : x ≡ b = same_Some x b (sym (find_hit (has_place p) x acc e) ∙ at) in
        let here : way.offset + way.size ≤ x.size = omega (arith, inside, ap (λ (k : Node). k.size) is) in
        let room : way.count + x.depth ≤ 8 = omega (arith, deep, ap (λ (k : Node). k.depth) is) in
        subst (λ (t : Bool). Lying size acc (both t).next (both t).way) (sym e)
        (through_lies size acc x x.kind way (first_read_only way.read_only x) s.shows here room)
    go false e =
        subst (λ (t : Bool). Lying size acc (both t).next (both t).way) (sym e)
        (b, (sym (find_miss (has_place p) x acc e) ∙ at, inside, deep))

pub walked_lies : (size : ℕ) (acc newer : List Node) (w : Walk) → AllSmall size acc → AllOver acc newer →
    Lying size (back acc newer) w.next w.way →
    Lying size acc (walked newer w).next (walked newer w).way
walked_lies size acc [] w small a h = h
walked_lies size acc (x ∷ newer) w small a h =
    passed_lies size acc x (walked newer w).next (walked newer w).way a.0 (walked_lies size (x ∷ acc) newer w (small_more size acc x small a.0) a.1 h)

-- past the file node the way lies inside the image
root_lies : (size : ℕ) (root : Node) (next : Option ℕ) (way : WayDown) → IsRoot size root →
    Lying size (root ∷ []) next way →
    ((walked_past root (record { next = next; way = way })).way.offset + (walked_past root (record { next = next; way = way })).way.size ≤ size)
    × ((walked_past root (record { next = next; way = way })).way.count ≤ 8)
root_lies size root None way r h = h
root_lies size root (Some p) way r (b, (at, inside, deep)) = go (root.place == p) refl
  where
    both : Bool → Walk
    both t = if t then record { next = child_of root.kind; way = met root way } else record { next = Some p; way = way }

    go : (t : Bool) → (root.place == p) ≡ t →
        ((both (root.place == p)).way.offset + (both (root.place == p)).way.size ≤ size) × ((both (root.place == p)).way.count ≤ 8)
    go true e =
        let is : root ≡ b = same_Some root b (sym (find_hit (has_place p) root [] e) ∙ at) in
        let here : way.offset + way.size ≤ size = omega (arith, inside, ap (λ (k : Node). k.size) is, r.size) in
        let room : way.count ≤ 8 = omega (arith, deep) in
        subst (λ (t : Bool). ((both t).way.offset + (both t).way.size ≤ size) × ((both t).way.count ≤ 8)) (sym e)
        (subst (λ (kind : Kind). ((through kind root.place way).offset + (through kind root.place way).size ≤ size)
        × ((through kind root.place way).count ≤ 8)) (sym r.kind) (here, room))
    go false e = absurd (none-some b (sym (find_miss (has_place p) root [] e) ∙ at))

-- the node at a place is the same from either end of the list
at_back : (acc rest : List Node) (p : ℕ) (b : Node) → AllOver acc rest → node_at rest p ≡ Some b →
    node_at (back acc rest) p ≡ Some b
at_back acc [] p b a at = absurd (none-some b at)
at_back acc (x ∷ rest) p b a at = go (x.place == p) refl (at_back (x ∷ acc) rest p b a.1)
  where
    go : (t : Bool) → (x.place == p) ≡ t → (node_at rest p ≡ Some b → node_at (back (x ∷ acc) rest) p ≡ Some b) →
        node_at (back (x ∷ acc) rest) p ≡ Some b
    go true e more =
        found_back (x ∷ acc) rest p b a.1 (find_hit (has_place p) x acc e ∙ sym (find_hit (has_place p) x rest e) ∙ at)
    go false e more = more (sym (find_miss (has_place p) x rest e) ∙ at)

pub at_total : (size : ℕ) (nodes : List Node) (p : ℕ) (b : Node) → IsRooted size nodes → node_at nodes p ≡ Some b →
    node_at (back [] nodes) p ≡ Some b
at_total size [] p b a at = absurd a
at_total size (root ∷ rest) p b a at = go (root.place == p) refl
  where
    go : (t : Bool) → (root.place == p) ≡ t → node_at (back (root ∷ []) rest) p ≡ Some b
    go true e = found_back (root ∷ []) rest p b a.1 (find_hit (has_place p) root [] e ∙ sym (find_hit (has_place p) root rest e) ∙ at)
    go false e = at_back (root ∷ []) rest p b a.1 (sym (find_miss (has_place p) root rest e) ∙ at)

-- at its beginning a walk lies inside its first node
begun_lies : (size : ℕ) (nodes : List Node) (p : ℕ) (b : Node) → IsRooted size nodes → node_at nodes p ≡ Some b →
    Lying size (back [] nodes) (walk_begun p b.size).next (walk_begun p b.size).way
begun_lies size nodes p b a at =
    let found = at_total size nodes p b a at in
    let deep = (rooted_small size nodes a p b found).1 in
    (b, (found, omega arith, omega (arith, deep)))

pub way_inside : (size : ℕ) (nodes : List Node) (p : ℕ) (b : Node) → IsRooted size nodes → node_at nodes p ≡ Some b →
    ((walked nodes (walk_begun p b.size)).way.offset + (walked nodes (walk_begun p b.size)).way.size ≤ size) × ((walked nodes (walk_begun p b.size)).way.count ≤ 8)
way_inside size [] p b a at = absurd a
way_inside size (root ∷ rest) p b a at =
    let w = walk_begun p b.size in
    root_lies size root (walked rest w).next (walked rest w).way a.0
    (walked_lies size (root ∷ []) rest w (rooted_small size (root ∷ []) (a.0, record {})) a.1 (begun_lies size (root ∷ rest) p b a at))

-- there is room for a node where the way so far lies inside it
room_for : (size : ℕ) (acc : List Node) (x : Node) (kind : Kind) (way : WayDown) → size < 2 ^ 64 → AllSmall size acc →
    Shows acc x kind →
    way.offset + way.size ≤ x.size → way.count + x.depth ≤ 8 → FitsWay kind way
room_for size acc x File way small all s inside deep = record {}
room_for size acc x (Raw child offset) way small all s inside deep =
    let below = (all child s.0 s.1.0).0 in omega (arith, small, s.1.1, inside, below)
room_for size acc x (Throttle child slot) way small all s inside deep = omega (arith, deep, s.1.2)

can_pass : (size : ℕ) (acc : List Node) (x : Node) (next : Option ℕ) (way : WayDown) → size < 2 ^ 64 →
    AllSmall size acc → StandsOver acc x →
    Lying size (x ∷ acc) next way → is_next x.place next ≡ true → FitsWay x.kind way
can_pass size acc x None way small all s h is = absurd cc
can_pass size acc x (Some p) way small all s (b, (at, inside, deep)) e =
    let is : x ≡ b = same_Some x b (sym (find_hit (has_place p) x acc e) ∙ at) in
    room_for size acc x x.kind way small all s.shows (omega (arith, inside, ap (λ (k : Node). k.size) is)) (omega (arith, deep, ap (λ (k : Node). k.depth) is))

pub nth_passes : (size : ℕ) (acc nodes : List Node) (w : Walk) (i : ℕ) (x : Node) → size < 2 ^ 64 →
    AllSmall size acc → AllOver acc nodes →
    Lying size (back acc nodes) w.next w.way → i < length nodes → slice_index_or nodes i x ≡ x → CanPass x (walked (drop (suc i) nodes) w)
nth_passes size acc [] w i x small all a h inside at = absurd (omega (arith, inside))
nth_passes size acc (y ∷ nodes) w zero x small all a h inside at =
    subst (λ (k : Node). CanPass k (walked nodes w)) at
    (can_pass size acc y (walked nodes w).next (walked nodes w).way small all a.0 (walked_lies size (y ∷ acc) nodes w (small_more size acc y all a.0) a.1 h))
nth_passes size acc (y ∷ nodes) w (suc i) x small all a h inside at =
    nth_passes size (y ∷ acc) nodes w i x small (small_more size acc y all a.0) a.1 h (omega (arith, inside)) at

pub rooted_passes : (size : ℕ) (nodes : List Node) (p : ℕ) (b : Node) (i : ℕ) (x : Node) → size < 2 ^ 64 →
    IsRooted size nodes →
    node_at nodes p ≡ Some b → i < length nodes → slice_index_or nodes i x ≡ x → CanPass x (walked (drop (suc i) nodes) (walk_begun p b.size))
rooted_passes size [] p b i x small a at inside here = absurd a
rooted_passes size (root ∷ rest) p b zero x small a at inside here = λ e.
    subst (λ (k : Node). FitsWay k.kind (walked rest (walk_begun p b.size)).way) here
    (subst (λ (kind : Kind). FitsWay kind (walked rest (walk_begun p b.size)).way) (sym a.0.kind) (record {}))
rooted_passes size (root ∷ rest) p b (suc i) x small a at inside here =
    nth_passes size (root ∷ []) rest (walk_begun p b.size) i x small (rooted_small size (root ∷ []) (a.0, record {})) a.1
    (begun_lies size (root ∷ rest) p b a at) (omega (arith, inside)) here

-- every way down lies inside the image
pub every_way : (size : ℕ) (nodes : List Node) (p : ℕ) (way : WayDown) → IsRooted size nodes →
    way_from nodes p ≡ Some way →
    (way.offset + way.size ≤ size) × (way.count ≤ 8)
every_way size nodes p way a is = go (node_at nodes p) refl is
  where
    go : (found : Option Node) → node_at nodes p ≡ found →
        option_map (λ (n : Node). (walked nodes (walk_begun p n.size)).way) found ≡ Some way →
        (way.offset + way.size ≤ size) × (way.count ≤ 8)
    go None e is = absurd (none-some way is)
    go (Some n) e is =
        subst (λ (k : WayDown). (k.offset + k.size ≤ size) × (k.count ≤ 8)) (same_Some (walked nodes (walk_begun p n.size)).way way is)
        (way_inside size nodes p n a e)
