-- Nodes still stand over each other after one more, one less, or another in its stead.
use Rattle.std.proofs.Common.{◌≡◌, ◌≢◌, ℕ, zero, suc, ◌<◌, ◌≤◌, List, [], ◌∷◌, ◌++◌, length, Bool, true, false, refl, sym, ◌∙◌, ap, subst, arith}
use Rattle.std.specs.Prelude.{◌==◌, Some, None, find}
use Rattle.std.specs.List.{remove, slice_index_or, slice_set}
use Rattle.std.specs.Str.{bytes_eq}
use Rattle.std.proofs.lemmas.Bool.{eq-eqb, eqb-true}
use Rattle.std.proofs.lemmas.Option.{none-some, same_Some}
use Rattle.qs_nodes.specs.declared.node.Kind.{Kind}
use Rattle.qs_nodes.specs.declared.node.Kind.TheVariants.{File, Raw, Throttle}
use Rattle.qs_nodes.specs.declared.node.Node.{Node}
use Rattle.qs_nodes.specs.Nodes.{has_child, has_name, has_place, is_over, named}
use Rattle.qs_nodes.specs.Tree.{node_at, AllOver, Shows, StandsOver}
use Rattle.qs_nodes.proofs.Finds.{find_hit, find_miss, none_behind, none_both, none_first}

-- a node of that size and depth stands at a place
abbrev pub Alike : Node → List Node → ℕ → Type 0
Alike b nodes p = (c : Node) × ((node_at nodes p ≡ Some c) × (c.size ≡ b.size) × (c.depth ≡ b.depth))

-- what nodes whose children are at these places need of the older ones is still there
pub record Kept (U : ℕ → Type 0) (acc new : List Node) : Type 0 where
  pub free : (p : ℕ) → node_at acc p ≡ None → node_at new p ≡ None
  pub name : (s : List ℕ) → named acc s ≡ None → named new s ≡ None
  pub same : (p : ℕ) (b : Node) → U p → node_at acc p ≡ Some b → Alike b new p

none_more : (test : Node → Bool) (x : Node) (acc new : List Node) → (find test acc ≡ None → find test new ≡ None) →
    find test (x ∷ acc) ≡ None → find test (x ∷ new) ≡ None
none_more test x acc new k h = none_both test x new (none_first test x acc h) (k (none_behind test x acc h))

same_more : (x b : Node) (acc new : List Node) (p : ℕ) → (node_at acc p ≡ Some b → Alike b new p) →
    node_at (x ∷ acc) p ≡ Some b →
    Alike b (x ∷ new) p
same_more x b acc new p k at = go (x.place == p) refl
  where
    go : (t : Bool) → (x.place == p) ≡ t → Alike b (x ∷ new) p
    go true e =
        let is : x ≡ b = same_Some x b (sym (find_hit (has_place p) x acc e) ∙ at) in
        (x, (find_hit (has_place p) x new e, ap (λ (n : Node). n.size) is, ap (λ (n : Node). n.depth) is))
    go false e =
        let c = k (sym (find_miss (has_place p) x acc e) ∙ at) in
        (c.0, (find_miss (has_place p) x new e ∙ c.1.0, c.1.1, c.1.2))

pub kept_more : (U : ℕ → Type 0) (acc new : List Node) (x : Node) → Kept U acc new → Kept U (x ∷ acc) (x ∷ new)
kept_more U acc new x k = record {
  free = λ p h. none_more (has_place p) x acc new (k.free p) h;
  name = λ s h. none_more (has_name s) x acc new (k.name s) h;
  same = λ p b u h. same_more x b acc new p (k.same p b u) h;
}

-- a node's child is at one of these places
abbrev pub Uses : (ℕ → Type 0) → Kind → Type 0
Uses U File = Unit {0}
Uses U (Raw child offset) = U child
Uses U (Throttle child slot) = U child

abbrev pub AllUse : (ℕ → Type 0) → List Node → Type 0
AllUse U [] = Unit {0}
AllUse U (x ∷ xs) = Uses U x.kind × AllUse U xs

shows_kept : (U : ℕ → Type 0) (acc new : List Node) (x : Node) (kind : Kind) → Kept U acc new → Uses U kind →
    Shows acc x kind → Shows new x kind
shows_kept U acc new x File k u s = absurd s
shows_kept U acc new x (Raw child offset) k u s =
    let c = k.same child s.0 u s.1.0 in
    (c.0, (c.1.0, omega (arith, s.1.1, c.1.1), s.1.2 ∙ sym c.1.2))
shows_kept U acc new x (Throttle child slot) k u s =
    let c = k.same child s.0 u s.1.0 in
    (c.0, (c.1.0, s.1.1 ∙ sym c.1.1, omega (arith, s.1.2, c.1.2)))

pub all_kept : (U : ℕ → Type 0) (acc new rest : List Node) → Kept U acc new → AllUse U rest → AllOver acc rest →
    AllOver new rest
all_kept U acc new [] k u a = a
all_kept U acc new (x ∷ rest) k u a = (
  record {
    place = a.0.place;
    free = k.free x.place a.0.free;
    name = k.name x.name a.0.name;
    depth = a.0.depth;
    shows = shows_kept U acc new x x.kind k u.0 a.0.shows;
  },
  all_kept U (x ∷ acc) (x ∷ new) rest (kept_more U acc new x k) u.1 a.1,
)

-- each node's child is at some place
abbrev pub Anywhere : ℕ → Type 0
Anywhere p = Unit {0}

pub all_anywhere : (xs : List Node) → AllUse Anywhere xs
all_anywhere [] = record {}
all_anywhere (x ∷ xs) = (go x.kind, all_anywhere xs)
  where
    go : (kind : Kind) → Uses Anywhere kind
    go File = record {}
    go (Raw child offset) = record {}
    go (Throttle child slot) = record {}

-- each node's child is elsewhere
abbrev pub Elsewhere : ℕ → ℕ → Type 0
Elsewhere q p = p ≢ q

pub apart_of : (a q : ℕ) → (a == q) ≡ false → a ≢ q
apart_of a q is same = go (a == q) (eq-eqb a q same) is
  where
    go : (b : Bool) → b ≡ true → b ≡ false → ⊥
    go true e f = cc
    go false e f = cc

pub all_elsewhere : (q : ℕ) (xs : List Node) → find (is_over q) xs ≡ None → AllUse (Elsewhere q) xs
all_elsewhere q [] h = record {}
all_elsewhere q (x ∷ xs) h = (go x.kind refl, all_elsewhere q xs (none_behind (is_over q) x xs h))
  where
    go : (kind : Kind) → x.kind ≡ kind → Uses (Elsewhere q) kind
    go File is = record {}
    go (Raw child offset) is = apart_of child q (sym (ap (λ (k : Kind). has_child q k) is) ∙ none_first (is_over q) x xs h)
    go (Throttle child slot) is = apart_of child q (sym (ap (λ (k : Kind). has_child q k) is) ∙ none_first (is_over q) x xs h)

-- one node less
miss_of : (x : Node) (xs : List Node) (p : ℕ) → p ≢ x.place → node_at (x ∷ xs) p ≡ node_at xs p
miss_of x xs p apart = go (x.place == p) refl
  where
    go : (b : Bool) → (x.place == p) ≡ b → node_at (x ∷ xs) p ≡ node_at xs p
    go true e = absurd (apart (sym (eqb-true x.place p e)))
    go false e = find_miss (has_place p) x xs e

kept_less : (x : Node) (acc : List Node) → Kept (Elsewhere x.place) (x ∷ acc) acc
kept_less x acc = record {
  free = λ p h. none_behind (has_place p) x acc h;
  name = λ s h. none_behind (has_name s) x acc h;
  same = λ p b u h. (b, (sym (miss_of x acc p u) ∙ h, refl, refl));
}

pub remove_over : (acc rest : List Node) (i : ℕ) (n : Node) → i < length rest → slice_index_or rest i n ≡ n →
    find (is_over n.place) rest ≡ None → AllOver acc rest → AllOver acc (remove rest i)
remove_over acc [] i n inside at h a = absurd (omega (arith, inside))
remove_over acc (x ∷ rest) zero n inside at h a =
    all_kept (Elsewhere x.place) (x ∷ acc) acc rest (kept_less x acc)
    (all_elsewhere x.place rest (none_behind (is_over x.place) x rest (subst (λ (m : Node). find (is_over m.place) (x ∷ rest) ≡ None) (sym at) h))) a.1
remove_over acc (x ∷ rest) (suc i) n inside at h a =
    (a.0, remove_over (x ∷ acc) rest i n (omega (arith, inside)) at (none_behind (is_over n.place) x rest h) a.1)

-- another node in its stead, of the same name and at the same place
kept_set : (U : ℕ → Type 0) (n m : Node) (acc : List Node) → m.place ≡ n.place → m.name ≡ n.name →
    (U n.place → (m.size ≡ n.size) × (m.depth ≡ n.depth)) → Kept U (n ∷ acc) (m ∷ acc)
kept_set U n m acc place name like = record {
  free = λ p h. none_both (has_place p) m acc (ap (λ (q : ℕ). q == p) place ∙ none_first (has_place p) n acc h) (none_behind (has_place p) n acc h);
  name = λ s h. none_both (has_name s) m acc (ap (λ (q : List ℕ). bytes_eq q s) name ∙ none_first (has_name s) n acc h) (none_behind (has_name s) n acc h);
  same = λ p b u h. go p b u h (n.place == p) refl;
}
  where
    go : (p : ℕ) (b : Node) → U p → node_at (n ∷ acc) p ≡ Some b → (t : Bool) → (n.place == p) ≡ t →
        Alike b (m ∷ acc) p
    go p b u h true e =
        let is : n ≡ b = same_Some n b (sym (find_hit (has_place p) n acc e) ∙ h) in
        let l = like (subst U (sym (eqb-true n.place p e)) u) in
        (m, (find_hit (has_place p) m acc (ap (λ (q : ℕ). q == p) place ∙ e), l.0 ∙ ap (λ (k : Node). k.size) is, l.1 ∙ ap (λ (k : Node). k.depth) is))
    go p b u h false e =
        (b, (find_miss (has_place p) m acc (ap (λ (q : ℕ). q == p) place ∙ e) ∙ sym (find_miss (has_place p) n acc e) ∙ h, refl, refl))

-- the nodes with these newer ones, the newest in front
abbrev pub back : List Node → List Node → List Node
back acc [] = acc
back acc (x ∷ xs) = back (x ∷ acc) xs

-- a node is found where it was, with a node of a free place in front
pub found_more : (x b : Node) (acc : List Node) (p : ℕ) → node_at acc x.place ≡ None → node_at acc p ≡ Some b →
    node_at (x ∷ acc) p ≡ Some b
found_more x b acc p free at = go (x.place == p) refl
  where
    go : (t : Bool) → (x.place == p) ≡ t → node_at (x ∷ acc) p ≡ Some b
    go true e = absurd (none-some b (sym (subst (λ (q : ℕ). node_at acc q ≡ None) (eqb-true x.place p e) free) ∙ at))
    go false e = find_miss (has_place p) x acc e ∙ at

pub found_back : (acc rest : List Node) (p : ℕ) (b : Node) → AllOver acc rest → node_at acc p ≡ Some b →
    node_at (back acc rest) p ≡ Some b
found_back acc [] p b a at = at
found_back acc (x ∷ rest) p b a at = found_back (x ∷ acc) rest p b a.1 (found_more x b acc p a.0.free at)

-- the node of a name is found at its place
pub named_back : (acc rest : List Node) (s : List ℕ) (b : Node) → AllOver acc rest → named rest s ≡ Some b →
    node_at (back acc rest) b.place ≡ Some b
named_back acc [] s b a at = absurd (none-some b at)
named_back acc (x ∷ rest) s b a at = go (has_name s x) refl (named_back (x ∷ acc) rest s b a.1)
  where
    go : (t : Bool) → has_name s x ≡ t → (named rest s ≡ Some b → node_at (back (x ∷ acc) rest) b.place ≡ Some b) →
        node_at (back (x ∷ acc) rest) b.place ≡ Some b
    go true e more =
        let is : x ≡ b = same_Some x b (sym (find_hit (has_name s) x rest e) ∙ at) in
        subst (λ (k : Node). node_at (back (x ∷ acc) rest) k.place ≡ Some k) is
        (found_back (x ∷ acc) rest x.place x a.1 (find_hit (has_place x.place) x acc (eq-eqb x.place x.place refl)))
    go false e more = more (sym (find_miss (has_name s) x rest e) ∙ at)

pub none_back : (test : Node → Bool) (acc rest : List Node) → find test acc ≡ None → find test rest ≡ None →
    find test (back acc rest) ≡ None
none_back test acc [] a h = a
none_back test acc (x ∷ rest) a h = none_back test (x ∷ acc) rest (none_both test x acc (none_first test x rest h) a) (none_behind test x rest h)

-- each node is no larger than the image, and no deeper than 8
abbrev pub AllSmall : ℕ → List Node → Type 0
AllSmall size nodes = (p : ℕ) (b : Node) → node_at nodes p ≡ Some b → (b.size ≤ size) × (b.depth ≤ 8)

shows_small : (size : ℕ) (acc : List Node) (x : Node) (kind : Kind) → AllSmall size acc → Shows acc x kind →
    x.size ≤ size
shows_small size acc x File small s = absurd s
shows_small size acc x (Raw child offset) small s = omega (arith, s.1.1, (small child s.0 s.1.0).0)
shows_small size acc x (Throttle child slot) small s = omega (arith, s.1.1, (small child s.0 s.1.0).0)

pub small_more : (size : ℕ) (acc : List Node) (x : Node) → AllSmall size acc → StandsOver acc x →
    AllSmall size (x ∷ acc)
small_more size acc x small s p b at = go (x.place == p) refl
  where
    go : (t : Bool) → (x.place == p) ≡ t → (b.size ≤ size) × (b.depth ≤ 8)
    go true e =
        let is : x ≡ b = same_Some x b (sym (find_hit (has_place p) x acc e) ∙ at) in
        subst (λ (k : Node). (k.size ≤ size) × (k.depth ≤ 8)) is (shows_small size acc x x.kind small s.shows, s.depth)
    go false e = small p b (sym (find_miss (has_place p) x acc e) ∙ at)

pub small_back : (size : ℕ) (acc rest : List Node) → AllSmall size acc → AllOver acc rest →
    AllSmall size (back acc rest)
small_back size acc [] small a = small
small_back size acc (x ∷ rest) small a = small_back size (x ∷ acc) rest (small_more size acc x small a.0) a.1

-- one node more
pub push_over : (acc rest : List Node) (m : Node) → AllOver acc rest → StandsOver (back acc rest) m →
    AllOver acc (rest ++ m ∷ [])
push_over acc [] m a s = (s, record {})
push_over acc (x ∷ rest) m a s = (a.0, push_over (x ∷ acc) rest m a.1 s)

-- a node stands over what another one stood over
abbrev pub InStead : List Node → Node → Node → Type 0
InStead total n m = (before : List Node) → ((p : ℕ) (b : Node) → node_at before p ≡ Some b → node_at total p ≡ Some b) →
    StandsOver before n → StandsOver before m

pub set_over : (U : ℕ → Type 0) (acc rest : List Node) (i : ℕ) (n m : Node) → i < length rest →
    slice_index_or rest i n ≡ n →
    m.place ≡ n.place → m.name ≡ n.name → (U n.place → (m.size ≡ n.size) × (m.depth ≡ n.depth)) → AllUse U rest →
    InStead (back acc rest) n m → AllOver acc rest → AllOver acc (slice_set rest i m)
set_over U acc [] i n m inside at place name like u stead a = absurd (omega (arith, inside))
set_over U acc (x ∷ rest) zero n m inside at place name like u stead a = (
  stead acc (λ p b h. found_back acc (x ∷ rest) p b a h) (subst (StandsOver acc) at a.0),
  all_kept U (n ∷ acc) (m ∷ acc) rest (kept_set U n m acc place name like) u.1 (subst (λ (k : Node). AllOver (k ∷ acc) rest) at a.1),
)
set_over U acc (x ∷ rest) (suc i) n m inside at place name like u stead a =
    (a.0, set_over U (x ∷ acc) rest i n m (omega (arith, inside)) at place name like u.1 stead a.1)
