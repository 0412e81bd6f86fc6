-- The way from a node adds what the node does to the way from its child.
use Rattle.std.proofs.Common.{◌≡◌, ◌≢◌, ℕ, ◌+◌, ◌<◌, ◌≤◌, List, [], ◌∷◌, length, Bool, true, false, refl, sym, ◌∙◌, ap, subst, arith}
use Rattle.std.specs.Prelude.{◌==◌, Option, Some, None, option_map, replicate, if◌then◌else◌}
use Rattle.std.specs.List.{slice_index_or, slice_set}
use Rattle.std.specs.Option.{option_or}
use Rattle.std.proofs.lemmas.Bool.{eqb-true}
use Rattle.std.proofs.lemmas.Bool.Decides.{nat_tests}
use Rattle.std.proofs.lemmas.List.{get_or-set_same, get_or-set_other, length-set}
use Rattle.std.proofs.lemmas.Option.{none-some, same_Some}
use Rattle.qs_nodes.specs.declared.node.Kind.{Kind}
use Rattle.qs_nodes.specs.declared.node.Kind.TheVariants.{File, Raw, Throttle}
use Rattle.qs_nodes.specs.declared.node.Node.{Node}
use Rattle.qs_nodes.specs.declared.way.WayDown.{WayDown}
use Rattle.qs_nodes.specs.declared.walk.Walk.{Walk}
use Rattle.qs_nodes.specs.Nodes.{has_place}
use Rattle.qs_nodes.specs.Tree.{node_at, AllOver, IsRooted, Shows}
use Rattle.qs_nodes.specs.Ways.{walk_begun, child_of, first_read_only, is_next, met, walked_past, through, walked, way_from}
use Rattle.qs_nodes.specs.Follows.{members_of, name_if_read_only, offset_of, Follows, IsFromFile}
use Rattle.qs_nodes.proofs.Finds.{find_hit, find_miss}
use Rattle.qs_nodes.proofs.Inside.{every_way}
use Rattle.qs_nodes.proofs.Over.{apart_of, found_more}

read_ahead : (r known : Option (List ℕ)) (x : Node) → first_read_only (option_or r known) x ≡ option_or r (first_read_only known x)
read_ahead None known x = refl
read_ahead (Some name) known x = refl

-- what holds of the two ways; of the groups only while they are no more than 8
record Step (n : Node) (w u : WayDown) : Type 0 where
  offset : w.offset ≡ offset_of n.kind + u.offset
  count : w.count ≡ members_of n.kind + u.count
  read_only : w.read_only ≡ option_or (name_if_read_only n) u.read_only
  first : (child slot : ℕ) → n.kind ≡ Throttle child slot → slice_index_or w.groups 0 (0, 0) ≡ (slot, n.place)
  groups : w.count ≤ 8 → (k : ℕ) → k < u.count →
      slice_index_or w.groups (members_of n.kind + k) (0, 0) ≡ slice_index_or u.groups k (0, 0)
  long : length w.groups ≡ 8
  low : length u.groups ≡ 8

-- one member more
member_first : (n : Node) (w u : WayDown) (pair : ℕ × ℕ) → Step n w u → (child slot : ℕ) → n.kind ≡ Throttle child slot →
    slice_index_or (slice_set w.groups w.count pair) 0 (0, 0) ≡ (slot, n.place)
member_first n w u pair f child slot kind =
    let one : members_of n.kind ≡ 1 = ap members_of kind in
    let count = f.count in
    get_or-set_other w.groups w.count 0 pair (0, 0) (λ h. absurd (omega (arith, h, one, count))) ∙ f.first child slot kind

member_ahead : (n : Node) (w u : WayDown) (pair : ℕ × ℕ) → Step n w u → w.count + 1 ≤ 8 → (k : ℕ) → k < u.count + 1 →
    slice_index_or (slice_set w.groups w.count pair) (members_of n.kind + k) (0, 0) ≡ slice_index_or (slice_set u.groups u.count pair) k (0, 0)
member_ahead n w u pair f room k inside = go (k == u.count) refl
  where
    go : (t : Bool) → (k == u.count) ≡ t →
        slice_index_or (slice_set w.groups w.count pair) (members_of n.kind + k) (0, 0) ≡ slice_index_or (slice_set u.groups u.count pair) k (0, 0)
    go true e =
        let same : k ≡ u.count = eqb-true k u.count e in
        let here : members_of n.kind + k ≡ w.count = omega (arith, same, f.count) in
        let within : w.count < length w.groups = omega (arith, room, f.long) in
        let under : u.count < length u.groups = omega (arith, room, f.low, f.count) in
        ap (λ (i : ℕ). slice_index_or (slice_set w.groups w.count pair) i (0, 0)) here
        ∙ get_or-set_same w.groups w.count pair (0, 0) within
        ∙ sym (ap (λ (i : ℕ). slice_index_or (slice_set u.groups u.count pair) i (0, 0)) same ∙ get_or-set_same u.groups u.count pair (0, 0) under)
    go false e =
        let apart : k ≢ u.count = apart_of k u.count e in
        let before : k < u.count = grind (arith, nat_tests) in
        get_or-set_other w.groups w.count (members_of n.kind + k) pair (0, 0) (λ h. absurd (apart (omega (arith, h, f.count))))
        ∙ f.groups (omega (arith, room)) k before
        ∙ sym (get_or-set_other u.groups u.count k pair (0, 0) apart)

met_ahead : (n x : Node) (w u : WayDown) → Step n w u → Step n (met x w) (met x u)
met_ahead n x w u f = go x.kind
  where
    known : first_read_only w.read_only x ≡ option_or (name_if_read_only n) (first_read_only u.read_only x)
    known = ap (λ (k : Option (List ℕ)). first_read_only k x) f.read_only ∙ read_ahead (name_if_read_only n) u.read_only x

    go : (kind : Kind) → Step n (record (through kind x.place w) { read_only = first_read_only w.read_only x })
        (record (through kind x.place u) { read_only = first_read_only u.read_only x })
    go File = record {
      offset = f.offset;
      count = f.count;
      read_only = known;
      first = f.first;
      groups = f.groups;
      long = f.long;
      low = f.low;
    }
    go (Raw child offset) = record {
      offset = omega (arith, f.offset);
      count = f.count;
      read_only = known;
      first = f.first;
      groups = f.groups;
      long = f.long;
      low = f.low;
    }
    go (Throttle child slot) = record {
      offset = f.offset;
      count = omega (arith, f.count);
      read_only = known;
      first = member_first n w u (slot, x.place) f;
      groups = member_ahead n w u (slot, x.place) f;
      long = length-set w.groups w.count (slot, x.place) ∙ f.long;
      low = length-set u.groups u.count (slot, x.place) ∙ f.low;
    }

-- two walks at the same place, one of which passed a node more
record Ahead (n : Node) (s t : Walk) : Type 0 where
  pub next : s.next ≡ t.next
  pub way : Step n s.way t.way

passed_ahead : (n x : Node) (next : Option ℕ) (w u : WayDown) → Step n w u →
    Ahead n (walked_past x (record { next = next; way = w })) (walked_past x (record { next = next; way = u }))
passed_ahead n x next w u f = go (is_next x.place next)
  where
    go : (t : Bool) → Ahead n (if t then record { next = child_of x.kind; way = met x w } else record { next = next; way = w })
        (if t then record { next = child_of x.kind; way = met x u } else record { next = next; way = u })
    go true = record { next = refl; way = met_ahead n x w u f }
    go false = record { next = refl; way = f }

pass_ahead : (n x : Node) (s t : Walk) → Ahead n s t → Ahead n (walked_past x s) (walked_past x t)
pass_ahead n x s t a =
    subst (λ (next : Option ℕ). Ahead n (walked_past x s) (walked_past x (record { next = next; way = t.way }))) a.next
    (passed_ahead n x s.next s.way t.way a.way)

-- newer nodes are passed on the way to an older one
skip_one : (x : Node) (acc : List Node) (p : ℕ) (b : Node) (way : WayDown) → node_at acc x.place ≡ None → node_at acc p ≡ Some b →
    walked_past x (record { next = Some p; way = way }) ≡ record { next = Some p; way = way }
skip_one x acc p b way free at = go (x.place == p) refl
  where
    both : Bool → Walk
    both t = if t then record { next = child_of x.kind; way = met x way } else record { next = Some p; way = way }

    go : (t : Bool) → (x.place == p) ≡ t → both (x.place == p) ≡ record { next = Some p; way = way }
    go true e = absurd (none-some b (sym (subst (λ (q : ℕ). node_at acc q ≡ None) (eqb-true x.place p e) free) ∙ at))
    go false e = ap both e

skipped : (acc newer : List Node) (p : ℕ) (b : Node) (way : WayDown) → AllOver acc newer → node_at acc p ≡ Some b →
    walked newer (record { next = Some p; way = way }) ≡ record { next = Some p; way = way }
skipped acc [] p b way a at = refl
skipped acc (x ∷ newer) p b way a at =
    ap (walked_past x) (skipped (x ∷ acc) newer p b way a.1 (found_more x b acc p a.0.free at)) ∙ skip_one x acc p b way a.0.free at

-- a node's child is among the older ones
child_found : (acc : List Node) (x : Node) (kind : Kind) (q : ℕ) → Shows acc x kind → child_of kind ≡ Some q → (b : Node) × (node_at acc q ≡ Some b)
child_found acc x File q s is = absurd s
child_found acc x (Raw child offset) q s is = (s.0, subst (λ (k : ℕ). node_at acc k ≡ Some s.0) (same_Some child q is) s.1.0)
child_found acc x (Throttle child slot) q s is = (s.0, subst (λ (k : ℕ). node_at acc k ≡ Some s.0) (same_Some child q is) s.1.0)

-- right past a node
or_none : (r : Option (List ℕ)) → r ≡ option_or r None
or_none None = refl
or_none (Some name) = refl

first_kind : (kind : Kind) (p q size bytes place : ℕ) →
    ((through kind place (walk_begun p size).way).offset ≡ offset_of kind + (walk_begun q bytes).way.offset)
    × ((through kind place (walk_begun p size).way).count ≡ members_of kind + (walk_begun q bytes).way.count)
first_kind File p q size bytes place = (omega arith, omega arith)
first_kind (Raw child offset) p q size bytes place = (omega arith, omega arith)
first_kind (Throttle child slot) p q size bytes place = (omega arith, omega arith)

begun_member : (n : Node) (p size : ℕ) (child slot : ℕ) → n.kind ≡ Throttle child slot →
    slice_index_or (met n (walk_begun p size).way).groups 0 (0, 0) ≡ (slot, n.place)
begun_member n p size child slot kind =
    ap (λ (k : Kind). slice_index_or (through k n.place (walk_begun p size).way).groups 0 (0, 0)) kind
    ∙ get_or-set_same {A = ℕ × ℕ} (replicate 8 (0, 0)) 0 (slot, n.place) (0, 0) (omega arith)

begun_long : (kind : Kind) (p size place : ℕ) → length (through kind place (walk_begun p size).way).groups ≡ 8
begun_long File p size place = refl
begun_long (Raw child offset) p size place = refl
begun_long (Throttle child slot) p size place = length-set {A = ℕ × ℕ} (replicate 8 (0, 0)) 0 (slot, place)

first_ahead : (n : Node) (p q size bytes : ℕ) → Step n (met n (walk_begun p size).way) (walk_begun q bytes).way
first_ahead n p q size bytes = record {
  offset = (first_kind n.kind p q size bytes n.place).0;
  count = (first_kind n.kind p q size bytes n.place).1;
  read_only = or_none (name_if_read_only n);
  first = begun_member n p size;
  groups = λ room k inside. absurd (omega (arith, inside));
  long = begun_long n.kind p size n.place;
  low = refl;
}

-- the walk at its first node
at_first : (x : Node) (p size : ℕ) → (x.place == p) ≡ true →
    walked_past x (walk_begun p size) ≡ record { next = child_of x.kind; way = met x (walk_begun p size).way }
at_first x p size e = ap both e
  where
    both : Bool → Walk
    both t = if t then record { next = child_of x.kind; way = met x (walk_begun p size).way } else walk_begun p size

here_ahead : (acc rest : List Node) (x : Node) (p q size bytes : ℕ) → AllOver acc (x ∷ rest) → (x.place == p) ≡ true →
    child_of x.kind ≡ Some q → Ahead x (walked (x ∷ rest) (walk_begun p size)) (walked (x ∷ rest) (walk_begun q bytes))
here_ahead acc rest x p q size bytes a e child =
    let found = child_found acc x x.kind q a.0.shows child in
    let first = ap (walked_past x) (skipped (x ∷ acc) rest p x (walk_begun p size).way a.1 (find_hit (has_place p) x acc e)) ∙ at_first x p size e in
    let second = ap (walked_past x) (skipped (x ∷ acc) rest q found.0 (walk_begun q bytes).way a.1 (found_more x found.0 acc q a.0.free found.1))
    ∙ skip_one x acc q found.0 (walk_begun q bytes).way a.0.free found.1 in
    subst (λ (t : Walk). Ahead x (walked (x ∷ rest) (walk_begun p size)) t) (sym second)
    (subst (λ (s : Walk). Ahead x s (walk_begun q bytes)) (sym first) (record { next = child; way = first_ahead x p q size bytes }))

node_ahead : (acc nodes : List Node) (p q : ℕ) (n : Node) (size bytes : ℕ) → AllOver acc nodes → node_at nodes p ≡ Some n →
    child_of n.kind ≡ Some q → Ahead n (walked nodes (walk_begun p size)) (walked nodes (walk_begun q bytes))
node_ahead acc [] p q n size bytes a at child = absurd (none-some n at)
node_ahead acc (x ∷ rest) p q n size bytes a at child = go (x.place == p) refl (node_ahead (x ∷ acc) rest p q n size bytes a.1)
  where
    go : (t : Bool) → (x.place == p) ≡ t →
        (node_at rest p ≡ Some n → child_of n.kind ≡ Some q → Ahead n (walked rest (walk_begun p size)) (walked rest (walk_begun q bytes))) →
        Ahead n (walked (x ∷ rest) (walk_begun p size)) (walked (x ∷ rest) (walk_begun q bytes))
    go true e more =
        let is : x ≡ n = same_Some x n (sym (find_hit (has_place p) x rest e) ∙ at) in
        subst (λ (k : Node). Ahead k (walked (x ∷ rest) (walk_begun p size)) (walked (x ∷ rest) (walk_begun q bytes))) is
        (here_ahead acc rest x p q size bytes a e (ap (λ (k : Node). child_of k.kind) is ∙ child))
    go false e more =
        pass_ahead n x (walked rest (walk_begun p size)) (walked rest (walk_begun q bytes)) (more (sym (find_miss (has_place p) x rest e) ∙ at) child)

rooted_ahead : (all : ℕ) (nodes : List Node) (p q : ℕ) (n : Node) (size bytes : ℕ) → IsRooted all nodes → node_at nodes p ≡ Some n →
    child_of n.kind ≡ Some q → Ahead n (walked nodes (walk_begun p size)) (walked nodes (walk_begun q bytes))
rooted_ahead all [] p q n size bytes a at child = absurd a
rooted_ahead all (root ∷ rest) p q n size bytes a at child = go (root.place == p) refl
  where
    go : (t : Bool) → (root.place == p) ≡ t → Ahead n (walked (root ∷ rest) (walk_begun p size)) (walked (root ∷ rest) (walk_begun q bytes))
    go true e =
        let is : root ≡ n = same_Some root n (sym (find_hit (has_place p) root rest e) ∙ at) in
        absurd (none-some q (ap child_of (sym a.0.kind ∙ ap (λ (k : Node). k.kind) is) ∙ child))
    go false e =
        pass_ahead n root (walked rest (walk_begun p size)) (walked rest (walk_begun q bytes))
        (node_ahead (root ∷ []) rest p q n size bytes a.1 (sym (find_miss (has_place p) root rest e) ∙ at) child)

-- the way from a place where a node is
way_at : (nodes : List Node) (p : ℕ) (n : Node) (way : WayDown) → node_at nodes p ≡ Some n → way_from nodes p ≡ Some way →
    (walked nodes (walk_begun p n.size)).way ≡ way
way_at nodes p n way at is =
    same_Some (walked nodes (walk_begun p n.size)).way way
    (sym (ap (option_map (λ (k : Node). (walked nodes (walk_begun p k.size)).way)) at) ∙ is)

follows_of : (n : Node) (w u : WayDown) → w.count ≤ 8 → Step n w u → Follows n w u
follows_of n w u room f = record {
  offset = f.offset;
  count = f.count;
  read_only = f.read_only;
  first = f.first;
  groups = f.groups room;
}

pub follows : (all : ℕ) (nodes : List Node) (p q : ℕ) (n : Node) (way below : WayDown) → IsRooted all nodes →
    node_at nodes p ≡ Some n → child_of n.kind ≡ Some q → way_from nodes p ≡ Some way → way_from nodes q ≡ Some below →
    Follows n way below
follows all nodes p q n way below a at child up down = go (node_at nodes q) refl down
  where
    go : (found : Option Node) → node_at nodes q ≡ found →
        option_map (λ (k : Node). (walked nodes (walk_begun q k.size)).way) found ≡ Some below → Follows n way below
    go None e is = absurd (none-some below is)
    go (Some b) e is =
        follows_of n way below (every_way all nodes p way a up).1
        (subst (Step n way) (same_Some (walked nodes (walk_begun q b.size)).way below is)
        (subst (λ (w : WayDown). Step n w (walked nodes (walk_begun q b.size)).way) (way_at nodes p n way at up)
        (rooted_ahead all nodes p q n n.size b.size a at child).way))

-- no other node is the file node
other_kind : (acc rest : List Node) (p : ℕ) (n : Node) → AllOver acc rest → node_at rest p ≡ Some n → n.kind ≡ File → ⊥
other_kind acc [] p n a at kind = none-some n at
other_kind acc (x ∷ rest) p n a at kind = go (x.place == p) refl (other_kind (x ∷ acc) rest p n a.1)
  where
    go : (t : Bool) → (x.place == p) ≡ t → (node_at rest p ≡ Some n → n.kind ≡ File → ⊥) → ⊥
    go true e more =
        let is : x ≡ n = same_Some x n (sym (find_hit (has_place p) x rest e) ∙ at) in
        subst (Shows acc x) (ap (λ (k : Node). k.kind) is ∙ kind) a.0.shows
    go false e more = more (sym (find_miss (has_place p) x rest e) ∙ at) kind

through_file : (n : Node) (p : ℕ) (kind : Kind) → kind ≡ File →
    IsFromFile n (record (through kind n.place (walk_begun p n.size).way) { read_only = name_if_read_only n })
through_file n p kind is =
    subst (λ (k : Kind). IsFromFile n (record (through k n.place (walk_begun p n.size).way) { read_only = name_if_read_only n })) (sym is)
    (refl, refl, refl, refl)

pub whole : (all : ℕ) (nodes : List Node) (p : ℕ) (n : Node) (way : WayDown) → IsRooted all nodes → node_at nodes p ≡ Some n → n.kind ≡ File →
    way_from nodes p ≡ Some way → IsFromFile n way
whole all [] p n way a at kind is = absurd a
whole all (root ∷ rest) p n way a at kind is = go (root.place == p) refl
  where
    go : (t : Bool) → (root.place == p) ≡ t → IsFromFile n way
    go true e =
        let same : root ≡ n = same_Some root n (sym (find_hit (has_place p) root rest e) ∙ at) in
        let begins : walked rest (walk_begun p n.size) ≡ walk_begun p n.size =
        skipped (root ∷ []) rest p root (walk_begun p n.size).way a.1 (find_hit (has_place p) root [] e) in
        let steps = ap (walked_past root) begins ∙ at_first root p n.size e in
        let to_n = ap (λ (k : Node). met k (walk_begun p n.size).way) same in
        let all_way : met n (walk_begun p n.size).way ≡ way =
        sym (ap (λ (w : Walk). w.way) steps ∙ to_n) ∙ way_at (root ∷ rest) p n way at is in
        subst (IsFromFile n) all_way (through_file n p n.kind kind)
    go false e = absurd (other_kind (root ∷ []) rest p n a.1 (sym (find_miss (has_place p) root rest e) ∙ at) kind)

-- the size is that of the upper node
kind_size : (kind : Kind) (place : ℕ) (way : WayDown) → (through kind place way).size ≡ way.size
kind_size File place way = refl
kind_size (Raw child offset) place way = refl
kind_size (Throttle child slot) place way = refl

passed_size : (x : Node) (s : Walk) → (walked_past x s).way.size ≡ s.way.size
passed_size x s = go (is_next x.place s.next)
  where
    go : (t : Bool) → (if t then record { next = child_of x.kind; way = met x s.way } else s).way.size ≡ s.way.size
    go true = kind_size x.kind x.place s.way
    go false = refl

walked_size : (nodes : List Node) (s : Walk) → (walked nodes s).way.size ≡ s.way.size
walked_size [] s = refl
walked_size (x ∷ nodes) s = passed_size x (walked nodes s) ∙ walked_size nodes s

pub size_at : (nodes : List Node) (p : ℕ) (n : Node) (way : WayDown) → node_at nodes p ≡ Some n → way_from nodes p ≡ Some way →
    way.size ≡ n.size
size_at nodes p n way at is =
    sym (ap (λ (w : WayDown). w.size) (way_at nodes p n way at is)) ∙ walked_size nodes (walk_begun p n.size)
