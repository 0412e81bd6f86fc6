-- Lists whose elements have numbers of their own, after an edit.
use Rattle.std.proofs.Common.{◌≡◌, ◌≢◌, ℕ, zero, suc, ◌<◌, ◌≤◌, ◌⊎◌, inl, inr, List, [], ◌∷◌, ◌++◌, length, get_or, map, take, drop, Bool, true, false, cond, refl, sym, ◌∙◌, ap, subst, arith, eq-eqb, ne_eqb, append-nil}
use Rattle.std.specs.Prelude.{Option, Some, None, ◌==◌, nat_lt, position}
use Rattle.std.specs.List.{slice_set, remove, position_or_len, AllByRecursion}
use Rattle.std.proofs.lemmas.List.{get_or_default, take_all, drop_all}
use Rattle.std.proofs.lemmas.Bool.Decides.{nat_tests}
use Rattle.std.proofs.lemmas.List.Quantifiers.{position-Some}
use Rattle.std.proofs.lemmas.List.Sums.{fails_before_first}
use Rattle.qs_model.specs.Puts.{put}
use Rattle.qs_model.proofs.Basics.{put_here, put_other, same_or}
use Rattle.qs_world.specs.Keyed.{find_by, HasKey, AreDistinct}
use Rattle.qs_world.specs.Follows.{IsElement}

-- the head is found where its number is asked for, and is passed over elsewhere
pub find_head : {X V : Type 0} (key : X → ℕ) (value : X → V) (x : X) (xs : List X) (k : ℕ) → key x ≡ k → find_by key value (x ∷ xs) k ≡ Some (value x)
find_head {X} {V} key value x xs k is = ap (λ (b : Bool). cond b (Some (value x)) (find_by key value xs k)) (eq-eqb (key x) k is)

pub find_tail : {X V : Type 0} (key : X → ℕ) (value : X → V) (x : X) (xs : List X) (k : ℕ) → key x ≢ k → find_by key value (x ∷ xs) k ≡ find_by key value xs k
find_tail {X} {V} key value x xs k other = ap (λ (b : Bool). cond b (Some (value x)) (find_by key value xs k)) (ne_eqb (key x) k other)

-- nothing is found of a number that no element has
pub find_none : {X V : Type 0} (key : X → ℕ) (value : X → V) (xs : List X) (k : ℕ) → (HasKey key xs k → ⊥) → find_by key value xs k ≡ None
find_none key value [] k never = refl
find_none key value (x ∷ xs) k never =
    find_tail key value x xs k (λ e. never (inl e)) ∙ find_none key value xs k (λ h. never (inr h))

pub none_has : {X V : Type 0} (key : X → ℕ) (value : X → V) (xs : List X) (k : ℕ) → find_by key value xs k ≡ None → HasKey key xs k → ⊥
none_has key value [] k none has = has
none_has {V = V} key value (x ∷ xs) k none (inl e) = no (value x) (sym (find_head key value x xs k e) ∙ none)
  where
    no : (v : V) → Some v ≡ None → ⊥
    no v f = cc
none_has {V = V} key value (x ∷ xs) k none (inr h) = go (λ f. none_has key value xs k f h) (same_or (key x) k)
  where
    no : (v : V) → Some v ≡ None → ⊥
    no v f = cc

    go : (find_by key value xs k ≡ None → ⊥) → (key x ≡ k) ⊎ (key x ≢ k) → ⊥
    go rest (inl e) = no (value x) (sym (find_head key value x xs k e) ∙ none)
    go rest (inr n) = rest (sym (find_tail key value x xs k n) ∙ none)

-- an element has its own number
pub has_at : {X : Type 0} (key : X → ℕ) (xs : List X) (i : ℕ) (d : X) → i < length xs → HasKey key xs (key (get_or xs i d))
has_at key [] i d inside = absurd (omega arith)
has_at key (x ∷ xs) zero d inside = inl refl
has_at key (x ∷ xs) (suc i) d inside = inr (has_at key xs i d (omega arith))

-- each is found by its number
pub find_at : {X V : Type 0} (key : X → ℕ) (value : X → V) (xs : List X) (i : ℕ) (d : X) → AreDistinct key xs → i < length xs →
    find_by key value xs (key (get_or xs i d)) ≡ Some (value (get_or xs i d))
find_at key value [] i d apart inside = absurd (omega arith)
find_at key value (x ∷ xs) zero d apart inside = find_head key value x xs (key x) refl
find_at key value (x ∷ xs) (suc i) d apart inside =
    let below : i < length xs = omega arith in
    find_tail key value x xs (key (get_or xs i d)) (λ e. apart.0 (subst (HasKey key xs) (sym e) (has_at key xs i d below)))
    ∙ find_at key value xs i d apart.1 below

-- one more at the end
pub has_more : {X : Type 0} (key : X → ℕ) (xs : List X) (y : X) (k : ℕ) → HasKey key (xs ++ y ∷ []) k → HasKey key xs k ⊎ (key y ≡ k)
has_more key [] y k (inl e) = inr e
has_more key [] y k (inr h) = absurd h
has_more key (x ∷ xs) y k (inl e) = inl (inl e)
has_more key (x ∷ xs) y k (inr h) = go (has_more key xs y k h)
  where
    go : HasKey key xs k ⊎ (key y ≡ k) → HasKey key (x ∷ xs) k ⊎ (key y ≡ k)
    go (inl g) = inl (inr g)
    go (inr e) = inr e

pub distinct_more : {X : Type 0} (key : X → ℕ) (xs : List X) (y : X) → AreDistinct key xs → (HasKey key xs (key y) → ⊥) → AreDistinct key (xs ++ y ∷ [])
distinct_more key [] y apart never = (λ h. h, tt)
distinct_more key (x ∷ xs) y apart never = (λ h. go (has_more key xs y (key x) h), distinct_more key xs y apart.1 (λ h. never (inr h)))
  where
    go : HasKey key xs (key x) ⊎ (key y ≡ key x) → ⊥
    go (inl h) = apart.0 h
    go (inr e) = never (inl (sym e))

more_here : {X V : Type 0} (key : X → ℕ) (value : X → V) (xs : List X) (y : X) → (HasKey key xs (key y) → ⊥) →
    find_by key value (xs ++ y ∷ []) (key y) ≡ Some (value y)
more_here key value [] y none = find_head key value y [] (key y) refl
more_here key value (x ∷ xs) y none =
    find_tail key value x (xs ++ y ∷ []) (key y) (λ e. none (inl e)) ∙ more_here key value xs y (λ h. none (inr h))

-- the same head in front of two lists
pub same_head : {X V : Type 0} (key : X → ℕ) (value : X → V) (x : X) (xs ys : List X) (k : ℕ) → find_by key value xs k ≡ find_by key value ys k →
    find_by key value (x ∷ xs) k ≡ find_by key value (x ∷ ys) k
same_head {X} {V} key value x xs ys k same = ap (λ (o : Option V). cond (key x == k) (Some (value x)) o) same

more_there : {X V : Type 0} (key : X → ℕ) (value : X → V) (xs : List X) (y : X) (k : ℕ) → k ≢ key y → find_by key value (xs ++ y ∷ []) k ≡ find_by key value xs k
more_there key value [] y k other = find_tail key value y [] k (λ e. other (sym e))
more_there key value (x ∷ xs) y k other = same_head key value x (xs ++ y ∷ []) xs k (more_there key value xs y k other)

-- a list that has v for k, and elsewhere what another has
pub put_by : {X V : Type 0} (key : X → ℕ) (value : X → V) (xs ys : List X) (k : ℕ) (v : Option V) → find_by key value ys k ≡ v →
    ((j : ℕ) → j ≢ k → find_by key value ys j ≡ find_by key value xs j) → (j : ℕ) → find_by key value ys j ≡ put (find_by key value xs) k v j
put_by key value xs ys k v this others j = go (same_or j k)
  where
    go : (j ≡ k) ⊎ (j ≢ k) → find_by key value ys j ≡ put (find_by key value xs) k v j
    go (inl e) = ap (find_by key value ys) e ∙ this ∙ sym (put_here (find_by key value xs) k v) ∙ ap (put (find_by key value xs) k v) (sym e)
    go (inr n) = others j n ∙ sym (put_other (find_by key value xs) k v j n)

pub find_more : {X V : Type 0} (key : X → ℕ) (value : X → V) (xs : List X) (y : X) → (HasKey key xs (key y) → ⊥) → (k : ℕ) →
    find_by key value (xs ++ y ∷ []) k ≡ put (find_by key value xs) (key y) (Some (value y)) k
find_more key value xs y never =
    put_by key value xs (xs ++ y ∷ []) (key y) (Some (value y)) (more_here key value xs y never) (λ j n. more_there key value xs y j n)

-- an element was replaced by one of the same number
pub has_set : {X : Type 0} (key : X → ℕ) (xs : List X) (i : ℕ) (y d : X) → i < length xs → key y ≡ key (get_or xs i d) → (k : ℕ) → HasKey key (slice_set xs i y) k → HasKey key xs k
has_set key [] i y d inside same k h = h
has_set key (x ∷ xs) zero y d inside same k (inl e) = inl (sym same ∙ e)
has_set key (x ∷ xs) zero y d inside same k (inr h) = inr h
has_set key (x ∷ xs) (suc i) y d inside same k (inl e) = inl e
has_set key (x ∷ xs) (suc i) y d inside same k (inr h) = inr (has_set key xs i y d (omega arith) same k h)

pub distinct_set : {X : Type 0} (key : X → ℕ) (xs : List X) (i : ℕ) (y d : X) → i < length xs → key y ≡ key (get_or xs i d) → AreDistinct key xs →
    AreDistinct key (slice_set xs i y)
distinct_set key [] i y d inside same apart = apart
distinct_set key (x ∷ xs) zero y d inside same apart = (λ h. apart.0 (subst (HasKey key xs) same h), apart.1)
distinct_set key (x ∷ xs) (suc i) y d inside same apart =
    (λ h. apart.0 (has_set key xs i y d (omega arith) same (key x) h), distinct_set key xs i y d (omega arith) same apart.1)

set_here : {X V : Type 0} (key : X → ℕ) (value : X → V) (xs : List X) (i : ℕ) (y d : X) → AreDistinct key xs → i < length xs → key y ≡ key (get_or xs i d) →
    find_by key value (slice_set xs i y) (key (get_or xs i d)) ≡ Some (value y)
set_here key value [] i y d apart inside same = absurd (omega arith)
set_here key value (x ∷ xs) zero y d apart inside same = find_head key value y xs (key x) same
set_here key value (x ∷ xs) (suc i) y d apart inside same =
    let below : i < length xs = omega arith in
    find_tail key value x (slice_set xs i y) (key (get_or xs i d)) (λ e. apart.0 (subst (HasKey key xs) (sym e) (has_at key xs i d below)))
    ∙ set_here key value xs i y d apart.1 below same

set_there : {X V : Type 0} (key : X → ℕ) (value : X → V) (xs : List X) (i : ℕ) (y d : X) → key y ≡ key (get_or xs i d) → (k : ℕ) → k ≢ key (get_or xs i d) →
    find_by key value (slice_set xs i y) k ≡ find_by key value xs k
set_there key value [] i y d same k other = refl
set_there key value (x ∷ xs) zero y d same k other =
    find_tail key value y xs k (λ e. other (sym e ∙ same)) ∙ sym (find_tail key value x xs k (λ e. other (sym e)))
set_there key value (x ∷ xs) (suc i) y d same k other = same_head key value x (slice_set xs i y) xs k (set_there key value xs i y d same k other)

pub find_set : {X V : Type 0} (key : X → ℕ) (value : X → V) (xs : List X) (i : ℕ) (y d : X) → AreDistinct key xs → i < length xs → key y ≡ key (get_or xs i d) →
    (k : ℕ) → find_by key value (slice_set xs i y) k ≡ put (find_by key value xs) (key (get_or xs i d)) (Some (value y)) k
find_set key value xs i y d apart inside same =
    put_by key value xs (slice_set xs i y) (key (get_or xs i d)) (Some (value y)) (set_here key value xs i y d apart inside same)
    (λ j n. set_there key value xs i y d same j n)

-- an element was taken out
pub has_gone : {X : Type 0} (key : X → ℕ) (xs : List X) (i k : ℕ) → HasKey key (remove xs i) k → HasKey key xs k
has_gone {X = X} key [] i k h = go (nil i) h
  where
    nil : (j : ℕ) → remove {X = X} [] j ≡ []
    nil zero = refl
    nil (suc j) = refl

    go : remove {X = X} [] i ≡ [] → HasKey key (remove {X = X} [] i) k → ⊥
    go e g = subst (λ (ys : List X). HasKey key ys k) e g
has_gone key (x ∷ xs) zero k h = inr h
has_gone key (x ∷ xs) (suc i) k (inl e) = inl e
has_gone key (x ∷ xs) (suc i) k (inr h) = inr (has_gone key xs i k h)

pub distinct_gone : {X : Type 0} (key : X → ℕ) (xs : List X) (i : ℕ) → i < length xs → AreDistinct key xs → AreDistinct key (remove xs i)
distinct_gone key [] i inside apart = absurd (omega arith)
distinct_gone key (x ∷ xs) zero inside apart = apart.1
distinct_gone key (x ∷ xs) (suc i) inside apart = (λ h. apart.0 (has_gone key xs i (key x) h), distinct_gone key xs i (omega arith) apart.1)

gone_here : {X V : Type 0} (key : X → ℕ) (value : X → V) (xs : List X) (i : ℕ) (d : X) → AreDistinct key xs → i < length xs →
    find_by key value (remove xs i) (key (get_or xs i d)) ≡ None
gone_here key value [] i d apart inside = absurd (omega arith)
gone_here key value (x ∷ xs) zero d apart inside = find_none key value xs (key x) apart.0
gone_here key value (x ∷ xs) (suc i) d apart inside =
    let below : i < length xs = omega arith in
    find_tail key value x (remove xs i) (key (get_or xs i d)) (λ e. apart.0 (subst (HasKey key xs) (sym e) (has_at key xs i d below)))
    ∙ gone_here key value xs i d apart.1 below

gone_there : {X V : Type 0} (key : X → ℕ) (value : X → V) (xs : List X) (i : ℕ) (d : X) → i < length xs → (k : ℕ) → k ≢ key (get_or xs i d) →
    find_by key value (remove xs i) k ≡ find_by key value xs k
gone_there key value [] i d inside k other = absurd (omega arith)
gone_there key value (x ∷ xs) zero d inside k other = sym (find_tail key value x xs k (λ e. other (sym e)))
gone_there key value (x ∷ xs) (suc i) d inside k other = same_head key value x (remove xs i) xs k (gone_there key value xs i d (omega arith) k other)

pub find_gone : {X V : Type 0} (key : X → ℕ) (value : X → V) (xs : List X) (i : ℕ) (d : X) → AreDistinct key xs → i < length xs →
    (k : ℕ) → find_by key value (remove xs i) k ≡ put (find_by key value xs) (key (get_or xs i d)) None k
find_gone key value xs i d apart inside =
    put_by key value xs (remove xs i) (key (get_or xs i d)) None (gone_here key value xs i d apart inside) (λ j n. gone_there key value xs i d inside j n)

-- each element was changed, and kept its number
pub has_map : {X : Type 0} (key : X → ℕ) (f : X → X) (xs : List X) → ((x : X) → key (f x) ≡ key x) → (k : ℕ) → HasKey key (map f xs) k → HasKey key xs k
has_map key f [] same k h = h
has_map key f (x ∷ xs) same k (inl e) = inl (sym (same x) ∙ e)
has_map key f (x ∷ xs) same k (inr h) = inr (has_map key f xs same k h)

pub distinct_map : {X : Type 0} (key : X → ℕ) (f : X → X) (xs : List X) → ((x : X) → key (f x) ≡ key x) → AreDistinct key xs → AreDistinct key (map f xs)
distinct_map key f [] same apart = apart
distinct_map key f (x ∷ xs) same apart =
    (λ h. apart.0 (subst (HasKey key xs) (same x) (has_map key f xs same (key (f x)) h)), distinct_map key f xs same apart.1)

-- an element of a number is at some place
pub has_fails : {X : Type 0} (key : X → ℕ) (xs : List X) (k : ℕ) → HasKey key xs k → ((j : ℕ) (d : X) → j < length xs → (key (get_or xs j d) == k) ≡ false) → ⊥
has_fails key [] k h fails = h
has_fails key (x ∷ xs) k (inl e) fails = no (sym (eq-eqb (key x) k e) ∙ fails 0 x (omega arith))
  where
    no : true ≡ false → ⊥
    no f = cc
has_fails key (x ∷ xs) k (inr h) fails = has_fails key xs k h (λ j d inside. fails (suc j) d (omega arith))

-- the first element of a number, where the search found one
pub first_found : {X V : Type 0} (key : X → ℕ) (value : X → V) (xs : List X) (i k : ℕ) (d : X) → position (λ x. key x == k) xs ≡ Some i →
    (i < length xs) × (key (get_or xs i d) ≡ k)
first_found key value xs i k d is =
    let at = position-Some (λ x. key x == k) xs i d is in
    (at.0, grind (arith, at.1))

-- and where it found none
pub none_found : {X V : Type 0} (key : X → ℕ) (value : X → V) (xs : List X) (k : ℕ) → position (λ x. key x == k) xs ≡ None → find_by key value xs k ≡ None
none_found key value xs k none = find_none key value xs k (λ h. never xs h below)
  where
    below : (j : ℕ) (d : _) → j < length xs → (key (get_or xs j d) == k) ≡ false
    below j d h = go (nat_lt (position_or_len (λ x. key x == k) xs) (length xs)) refl none
      where
        go : (b : Bool) → nat_lt (position_or_len (λ x. key x == k) xs) (length xs) ≡ b →
            cond b (Some (position_or_len (λ x. key x == k) xs)) None ≡ None → (key (get_or xs j d) == k) ≡ false
        go true e is = cc
        go false e is =
            let most : length xs ≤ position_or_len (λ x. key x == k) xs = grind (arith, nat_tests) in
            fails_before_first (λ x. key x == k) xs j d (omega (arith, most, h))

    never : (ys : List _) → HasKey key ys k → ((j : ℕ) (d : _) → j < length ys → (key (get_or ys j d) == k) ≡ false) → ⊥
    never ys h fails = has_fails key ys k h fails

-- what holds of each element holds of one
pub all_at : {X : Type 0} (P : X → Type 0) (xs : List X) (i : ℕ) (d : X) → AllByRecursion P xs → i < length xs → P (get_or xs i d)
all_at P [] i d all inside = absurd (omega arith)
all_at P (x ∷ xs) zero d all inside = all.0
all_at P (x ∷ xs) (suc i) d all inside = all_at P xs i d all.1 (omega arith)

pub all_set : {X : Type 0} (P : X → Type 0) (xs : List X) (i : ℕ) (y : X) → AllByRecursion P xs → P y → AllByRecursion P (slice_set xs i y)
all_set P [] i y all this = all
all_set P (x ∷ xs) zero y all this = (this, all.1)
all_set P (x ∷ xs) (suc i) y all this = (all.0, all_set P xs i y all.1 this)

pub all_gone : {X : Type 0} (P : X → Type 0) (xs : List X) (i : ℕ) → i < length xs → AllByRecursion P xs → AllByRecursion P (remove xs i)
all_gone P [] i inside all = absurd (omega arith)
all_gone P (x ∷ xs) zero inside all = all.1
all_gone P (x ∷ xs) (suc i) inside all = (all.0, all_gone P xs i (omega arith) all.1)

pub all_more : {X : Type 0} (P : X → Type 0) (xs : List X) (y : X) → AllByRecursion P xs → P y → AllByRecursion P (xs ++ y ∷ [])
all_more P [] y all this = (this, tt)
all_more P (x ∷ xs) y all this = (all.0, all_more P xs y all.1 this)

pub all_map : {X : Type 0} (P Q : X → Type 0) (f : X → X) (xs : List X) → ((x : X) → P x → Q (f x)) → AllByRecursion P xs → AllByRecursion Q (map f xs)
all_map P Q f [] step all = tt
all_map P Q f (x ∷ xs) step all = (step x all.0, all_map P Q f xs step all.1)

pub all_weaker : {X : Type 0} (P Q : X → Type 0) (xs : List X) → ((x : X) → P x → Q x) → AllByRecursion P xs → AllByRecursion Q xs
all_weaker P Q [] step all = tt
all_weaker P Q (x ∷ xs) step all = (step x all.0, all_weaker P Q xs step all.1)

-- a loop that goes over a list has not changed what is still to come
pub over_at : {X : Type 0} (f : X → X) (xs : List X) (i : ℕ) (d : X) → i < length xs → get_or (map f (take i xs) ++ drop i xs) i d ≡ get_or xs i d
over_at f [] i d inside = absurd (omega arith)
over_at f (x ∷ xs) zero d inside = refl
over_at f (x ∷ xs) (suc i) d inside = over_at f xs i d (omega arith)

-- an element, as an index gives it
pub element : {X : Type 0} (xs : List X) (i : ℕ) (x : X) → i < length xs → x ≡ get_or xs i x → IsElement xs i x
element xs i x inside is = record { inside = inside; is = λ d. get_or_default xs i d x inside ∙ sym is }

pub element_of : {X : Type 0} (xs : List X) (i : ℕ) (d : X) → i < length xs → IsElement xs i (get_or xs i d)
element_of xs i d inside = record { inside = inside; is = λ e. get_or_default xs i e d inside }

pub remove_set : {X : Type 0} (xs : List X) (i : ℕ) (y : X) → remove (slice_set xs i y) i ≡ remove xs i
remove_set [] zero y = refl
remove_set [] (suc i) y = refl
remove_set (x ∷ xs) zero y = refl
remove_set (x ∷ xs) (suc i) y = ap (λ (ys : List _). x ∷ ys) (remove_set xs i y)

-- where a loop is over, each element was changed
pub map_over : {X : Type 0} (f : X → X) (xs ys : List X) (i : ℕ) → length xs ≤ i → ys ≡ map f (take i xs) ++ drop i xs → ys ≡ map f xs
map_over f xs ys i long is = is ∙ rw (take_all i xs long, drop_all i xs long) (append-nil (map f xs))
