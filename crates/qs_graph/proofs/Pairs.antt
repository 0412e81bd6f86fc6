-- Of the standing exports and a new one, the first pair that conflicts has the new one.
use Rattle.std.proofs.Common.{◌≡◌, ◌≢◌, ℕ, suc, List, [], ◌∷◌, ◌++◌, Bool, true, false, refl, sym, ◌∙◌, ap, arith}
use Rattle.std.specs.Prelude.{Option, Some, None, cond, find, option_map, not, ◌||◌}
use Rattle.std.specs.List.{AllByRecursion}
use Rattle.qs_graph.specs.declared.export.Export.{Export}
use Rattle.qs_graph.specs.declared.export.Right.TheVariants.{Write}
use Rattle.qs_graph.specs.Exports.{allows, conflicting_pair, conflicts, export_at, first_of_two, standing}
use Rattle.qs_graph.specs.Table.{GraphValue}
use Rattle.qs_graph.specs.History.{IsAllowed}
use Rattle.qs_graph.proofs.Rights.{Share}

-- exports that share what the other takes don't conflict
pub no_conflict : (x y : Export) → Share x y Write → conflicts x y ≡ false
no_conflict x y s = go x.writable x.share_write y.writable y.share_write s
  where
    go : (a b c d : Bool) → (a ≡ true → d ≡ true) × (c ≡ true → b ≡ true) →
        conflicts (record x { writable = a; share_write = b }) (record y { writable = c; share_write = d }) ≡ false
    go false b false d s = refl
    go false true true d s = refl
    go false false true d s = let f : false ≡ true = s.1 refl in cc
    go true b false true s = refl
    go true b c false s = let f : false ≡ true = s.0 refl in cc
    go true true true true s = refl
    go true false true true s = let f : false ≡ true = s.1 refl in cc

pub conflicts_back : (x y : Export) → conflicts x y ≡ conflicts y x
conflicts_back x y = go (allows x y) (allows y x)
  where
    go : (p q : Bool) → (not p || not q) ≡ (not q || not p)
    go true true = refl
    go true false = refl
    go false true = refl
    go false false = refl

-- no export of a list conflicts with a later one
abbrev pub Apart : List Export → Type 0
Apart [] = Unit {0}
Apart (x ∷ xs) = AllByRecursion (λ y. conflicts x y ≡ false) xs × Apart xs

all_of : (places : List (Option Export)) (x : Export) → ((e : ℕ) (y : Export) → export_at places e ≡ Some y → conflicts x y ≡ false) →
    AllByRecursion (λ y. conflicts x y ≡ false) (standing places)
all_of [] x h = tt
all_of (None ∷ ps) x h = all_of ps x (λ e y at. h (suc e) y at)
all_of (Some z ∷ ps) x h = (h 0 z refl, all_of ps x (λ e y at. h (suc e) y at))

-- the exports at two places don't conflict
abbrev pub NoTwo : List (Option Export) → Type 0
NoTwo places = (d e : ℕ) (x y : Export) → d ≢ e → export_at places d ≡ Some x → export_at places e ≡ Some y → conflicts x y ≡ false

rest : (p : Option Export) (ps : List (Option Export)) → NoTwo (p ∷ ps) → NoTwo ps
rest p ps h d e x y apart a b = h (suc d) (suc e) x y (λ s. apart (omega (arith, s))) a b

pub apart_of : (places : List (Option Export)) → NoTwo places → Apart (standing places)
apart_of [] h = tt
apart_of (None ∷ ps) h = apart_of ps (rest None ps h)
apart_of (Some z ∷ ps) h =
    (all_of ps z (λ e y at. h 0 (suc e) z y (λ s. absurd (omega (arith, s))) refl at), apart_of ps (rest (Some z) ps h))

pub allowed_apart : (v : GraphValue) → IsAllowed v → Apart (standing v.places)
allowed_apart v ok =
    apart_of v.places (λ d e x y apart a b. no_conflict x y
    (λ h. ok.shared d e x y Write apart a b h, λ h. ok.shared e d y x Write (λ s. apart (sym s)) b a h))

-- a new export behind those that an earlier one doesn't conflict with
find_last : (x new : Export) (ys : List Export) → AllByRecursion (λ y. conflicts x y ≡ false) ys →
    find (conflicts x) (ys ++ new ∷ []) ≡ cond (conflicts x new) (Some new) None
find_last x new [] all = refl
find_last x new (y ∷ ys) all =
    ap (λ (b : Bool). cond b (Some y) (find (conflicts x) (ys ++ new ∷ []))) all.0 ∙ find_last x new ys all.1

abbrev with_new : Export → Option Export → Option (Export × Export)
with_new new o = option_map (λ (x : Export). (x, new)) o

pub pair_of : (xs : List Export) (new : Export) → Apart xs → conflicting_pair (xs ++ new ∷ []) ≡ with_new new (find (conflicts new) xs)
pair_of [] new apart = refl
pair_of (x ∷ xs) new apart =
    ap (λ (o : Option Export). first_of_two (option_map (λ (y : Export). (x, y)) o) (conflicting_pair (xs ++ new ∷ []))) (find_last x new xs apart.0)
    ∙ ap (λ (o : Option (Export × Export)). first_of_two (option_map (λ (y : Export). (x, y)) (cond (conflicts x new) (Some new) None)) o)
    (pair_of xs new apart.1)
    ∙ ap (λ (b : Bool). first_of_two (option_map (λ (y : Export). (x, y)) (cond b (Some new) None)) (with_new new (find (conflicts new) xs)))
    (conflicts_back x new)
    ∙ join (conflicts new x)
  where
    join : (b : Bool) →
        first_of_two (option_map (λ (y : Export). (x, y)) (cond b (Some new) None)) (with_new new (find (conflicts new) xs))
        ≡ with_new new (cond b (Some x) (find (conflicts new) xs))
    join true = refl
    join false = refl
