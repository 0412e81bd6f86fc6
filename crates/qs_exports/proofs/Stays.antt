-- A place answers for its export while a client of it is attached.
use Rattle.std.proofs.Common.{◌≡◌, ◌≢◌, ℕ, ◌+◌, ◌-◌, ◌<◌, ◌≤◌, List, Bool, true, false, refl, sym, ◌∙◌, ap, subst, arith, true≢false}
use Rattle.std.specs.Prelude.{◌==◌, ◌&&◌, Some, Result, Ok, Err, cond}
use Rattle.std.specs.List.{remove, slice_get, slice_index_or, slice_set, find, position}
use Rattle.std.proofs.lemmas.Bool.{eqb-true}
use Rattle.std.proofs.lemmas.List.Quantifiers.{position-Some}
use Rattle.std.proofs.lemmas.Option.{get_or_from_slice_get, same_Some}
use Rattle.qs_exports.specs.declared.export.Export.{Export}
use Rattle.qs_exports.specs.declared.export.NewExport.{NewExport}
use Rattle.qs_exports.specs.declared.export.Refused.{Refused}
use Rattle.qs_exports.specs.declared.export.Refused.TheVariants.{Duplicate, Full, NoExport, Crowded, NotAttached, Connected, Memory}
use Rattle.qs_exports.specs.Attached.{StaysAt}
use Rattle.qs_exports.specs.Changes.{ended_at, less_one, made_at_place, AddsExport, Attaches, DeletesExport, Detaches}
use Rattle.qs_exports.specs.Standing.{goes_with_next, stands_at, AreSeated}
use Rattle.qs_exports.proofs.Places.{at_less, at_more, at_other, found_at_place, set_at_place}

pub same_stays : (left : ℕ) (old new : List Export) (place : ℕ) → new ≡ old → StaysAt left old new place
same_stays left old new place is = λ x at has. (x, (ap (λ (l : List Export). find (stands_at place) l) is ∙ at, refl, omega (arith)))

-- the export of a number is changed, and keeps its place
changed : (left : ℕ) (old : List Export) (i : ℕ) (y n : Export) (place : ℕ) → AreSeated old → slice_get old i ≡ Some y →
    n.place ≡ y.place → n.made ≡ y.made → ((y.place == place) ≡ true → y.clients ≤ n.clients + left) →
    StaysAt left old (slice_set old i n) place
changed left old i y n place seated at keeps made counts = λ x there has. go (y.place == place) refl x there
  where
    go : (t : Bool) → (y.place == place) ≡ t → (x : Export) → find (stands_at place) old ≡ Some x →
        (m : Export) × ((find (stands_at place) (slice_set old i n) ≡ Some m) × (m.made ≡ x.made)
        × (x.clients ≤ m.clients + left))
    go true e x there =
        let here : y.place ≡ place = eqb-true y.place place e in
        let is : y ≡ x = same_Some y x (sym (found_at_place old i y seated at) ∙ ap (λ (p : ℕ). find (stands_at p) old) here ∙ there) in (
          n,
          (
            subst (λ (p : ℕ). find (stands_at p) (slice_set old i n) ≡ Some n) here (set_at_place old i y n seated at keeps),
            made ∙ ap (λ (z : Export). z.made) is,
            subst (λ (z : Export). z.clients ≤ n.clients + left) is (counts e),
          ),
        )
    go false e x there = (x, (at_other old i y n place at keeps e ∙ there, refl, omega (arith)))

-- the export of a number goes, and has no more clients than leave
gone : (left : ℕ) (old : List Export) (i : ℕ) (y : Export) (place : ℕ) → AreSeated old → slice_get old i ≡ Some y →
    ((y.place == place) ≡ true → y.clients ≤ left) → StaysAt left old (remove old i) place
gone left old i y place seated at few = λ x there has. go (y.place == place) refl x there has
  where
    go : (t : Bool) → (y.place == place) ≡ t → (x : Export) → find (stands_at place) old ≡ Some x → left < x.clients →
        (m : Export) × ((find (stands_at place) (remove old i) ≡ Some m) × (m.made ≡ x.made)
        × (x.clients ≤ m.clients + left))
    go true e x there has =
        let here : y.place ≡ place = eqb-true y.place place e in
        let is : y ≡ x = same_Some y x (sym (found_at_place old i y seated at) ∙ ap (λ (p : ℕ). find (stands_at p) old) here ∙ there) in
        let small : x.clients ≤ left = subst (λ (z : Export). z.clients ≤ left) is (few e) in
        absurd (omega (arith, small, has))
    go false e x there has = (x, (at_less old i y place at e ∙ there, refl, omega (arith)))

pub adds_stays : (old new : List Export) (made : NewExport) (result : Result ℕ Refused) (place : ℕ) →
    AddsExport old made result new → StaysAt 0 old new place
adds_stays old new made (Err (Duplicate p)) place a = same_stays 0 old new place a.1
adds_stays old new made (Err Full) place a = same_stays 0 old new place a.2
adds_stays old new made (Err Memory) place a = same_stays 0 old new place a.1.2
adds_stays old new made (Err NoExport) place a = absurd a
adds_stays old new made (Err Crowded) place a = absurd a
adds_stays old new made (Err NotAttached) place a = absurd a
adds_stays old new made (Err (Connected n)) place a = absurd a
adds_stays old new made (Ok p) place a = λ x at has. (
  x,
  (
    ap (λ (l : List Export). find (stands_at place) l) a.2 ∙ at_more old (made_at_place made p) x place at,
    refl,
    omega (arith),
  ),
)

pub attaches_stays : (old new : List Export) (name : List ℕ) (result : Result Export Refused) (place : ℕ) →
    AreSeated old → Attaches old name result new → StaysAt 0 old new place
attaches_stays old new name (Err NoExport) place seated a = same_stays 0 old new place a.1
attaches_stays old new name (Err Crowded) place seated a = same_stays 0 old new place a.2.2
attaches_stays old new name (Err (Duplicate p)) place seated a = absurd a
attaches_stays old new name (Err Full) place seated a = absurd a
attaches_stays old new name (Err Memory) place seated a = absurd a
attaches_stays old new name (Err NotAttached) place seated a = absurd a
attaches_stays old new name (Err (Connected n)) place seated a = absurd a
attaches_stays old new name (Ok y) place seated (i, x, (first, few, is, left)) =
    subst (λ (l : List Export). StaysAt 0 old l place) (sym left)
    (subst (λ (n : Export). StaysAt 0 old (slice_set old i n) place) (sym is)
    (changed 0 old i x (record x { clients = x.clients + 1 }) place seated first.1 refl refl (λ e. omega (arith))))

pub deletes_stays : (old new : List Export) (id : List ℕ) (hard : Bool) (result : Result Unit Refused) (place : ℕ) →
    AreSeated old → DeletesExport old id hard result new → StaysAt 0 old new place
deletes_stays old new id hard (Err NoExport) place seated a = same_stays 0 old new place a.1
deletes_stays old new id hard (Err (Connected n)) place seated a = same_stays 0 old new place a.2.4
deletes_stays old new id hard (Err (Duplicate p)) place seated a = absurd a
deletes_stays old new id hard (Err Full) place seated a = absurd a
deletes_stays old new id hard (Err Memory) place seated a = absurd a
deletes_stays old new id hard (Err NotAttached) place seated a = absurd a
deletes_stays old new id hard (Err Crowded) place seated a = absurd a
deletes_stays old new id hard (Ok done) place seated (i, x, (first, hard_is, is)) =
    subst (λ (l : List Export). StaysAt 0 old l place) (sym is) (go (x.clients == 0) refl)
  where
    go : (t : Bool) → (x.clients == 0) ≡ t → StaysAt 0 old (ended_at old i x) place
    go true e =
        subst (λ (l : List Export). StaysAt 0 old l place) (sym (ap (λ (b : Bool). cond b (remove old i) (slice_set old i (record x { shutting = true }))) e))
        (gone 0 old i x place seated first.1 (λ h. omega (arith, eqb-true x.clients 0 e)))
    go false e =
        subst (λ (l : List Export). StaysAt 0 old l place) (sym (ap (λ (b : Bool). cond b (remove old i) (slice_set old i (record x { shutting = true }))) e))
        (changed 0 old i x (record x { shutting = true }) place seated first.1 refl refl (λ h. omega (arith)))

one_client : (x : Export) → goes_with_next x ≡ true → x.clients ≤ 1
one_client x last = go x.shutting refl
  where
    go : (t : Bool) → x.shutting ≡ t → x.clients ≤ 1
    go true e = omega (arith, eqb-true x.clients 1 (sym (ap (λ (b : Bool). b && (x.clients == 1)) e) ∙ last))
    go false e = absurd (true≢false (sym last ∙ ap (λ (b : Bool). b && (x.clients == 1)) e))

-- one client less of an export leaves the others as they are
less_stays : (left : ℕ) (old : List Export) (i : ℕ) (x : Export) (place : ℕ) → AreSeated old → slice_get old i ≡ Some x →
    ((x.place == place) ≡ true → 1 ≤ left) → StaysAt left old (less_one old i x) place
less_stays left old i x place seated at one = go (goes_with_next x) refl
  where
    go : (t : Bool) → goes_with_next x ≡ t → StaysAt left old (less_one old i x) place
    go true e =
        subst (λ (l : List Export). StaysAt left old l place) (sym (ap (λ (b : Bool). cond b (remove old i) (slice_set old i (record x { clients = x.clients - 1 }))) e))
        (gone left old i x place seated at (λ h. omega (arith, one_client x e, one h)))
    go false e =
        subst (λ (l : List Export). StaysAt left old l place) (sym (ap (λ (b : Bool). cond b (remove old i) (slice_set old i (record x { clients = x.clients - 1 }))) e))
        (changed left old i x (record x { clients = x.clients - 1 }) place seated at refl refl (λ h. omega (arith, one h)))

pub detaches_stays : (old new : List Export) (place_left : ℕ) (result : Result Unit Refused) (place : ℕ) →
    AreSeated old → Detaches old place_left result new → StaysAt 1 old new place
detaches_stays old new left (Err NotAttached) place seated a = same_stays 1 old new place a.1
detaches_stays old new left (Err NoExport) place seated a = absurd a
detaches_stays old new left (Err (Connected n)) place seated a = absurd a
detaches_stays old new left (Err (Duplicate p)) place seated a = absurd a
detaches_stays old new left (Err Full) place seated a = absurd a
detaches_stays old new left (Err Memory) place seated a = absurd a
detaches_stays old new left (Err Crowded) place seated a = absurd a
detaches_stays old new left (Ok done) place seated (i, x, (first, some, is)) =
    subst (λ (l : List Export). StaysAt 1 old l place) (sym is)
    (less_stays 1 old i x place seated first.1 (λ h. omega (arith)))

-- the export that is found first at a place has that place
has_place : (xs : List Export) (i : ℕ) (x : Export) (left : ℕ) → position (stands_at left) xs ≡ Some i →
    slice_get xs i ≡ Some x → x.place ≡ left
has_place xs i x left first at =
    let passes : stands_at left (slice_index_or xs i x) ≡ true = (position-Some (stands_at left) xs i x first).1 in
    eqb-true x.place left (sym (ap (stands_at left) (get_or_from_slice_get xs i x x at)) ∙ passes)

pub others_stay : (old new : List Export) (left : ℕ) (result : Result Unit Refused) (place : ℕ) → left ≢ place →
    AreSeated old → Detaches old left result new → StaysAt 0 old new place
others_stay old new left (Err NotAttached) place apart seated a = same_stays 0 old new place a.1
others_stay old new left (Err NoExport) place apart seated a = absurd a
others_stay old new left (Err (Connected n)) place apart seated a = absurd a
others_stay old new left (Err (Duplicate p)) place apart seated a = absurd a
others_stay old new left (Err Full) place apart seated a = absurd a
others_stay old new left (Err Memory) place apart seated a = absurd a
others_stay old new left (Err Crowded) place apart seated a = absurd a
others_stay old new left (Ok done) place apart seated (i, x, (first, some, is)) =
    subst (λ (l : List Export). StaysAt 0 old l place) (sym is)
    (less_stays 0 old i x place seated first.1
    (λ h. absurd (apart (sym (has_place old i x left first.0 first.1) ∙ eqb-true x.place place h))))
