-- Which stripes a request syncs, and the list that it makes of them.
use Rattle.std.proofs.Common.{◌≡◌, ◌↔◌, ℕ, zero, suc, ◌+◌, ◌-◌, ◌*◌, ◌/◌, ◌%◌, max, ◌<◌, ◌≤◌, ◌⊎◌, inl, inr, Bool, true, false, ◌||◌, cond, List, [], ◌∷◌, ◌++◌, refl, sym, ap, ◌∙◌, subst, arith, append-nil}
use Rattle.qs_bytes.specs.declared.ask.Verdict.TheVariants.{Fine}
use Rattle.qs_part.specs.declared.stripe.Side.TheVariants.{Head, Tail}
use Rattle.qs_model.specs.Requests.{Client, Step, ToSync, ToEnd, edge, is_flush, syncs, to_sync, touches}
use Rattle.qs_model.proofs.Basics.{choose, same_or}
use Rattle.qs_verdicts.specs.Lists.{IsAmong, IsRising}
use Rattle.qs_verdicts.specs.Verdicts.{AreStripes, Meets}

-- the run of the first block, r runs on, is of stripe s
pub touched : (first final s : ℕ) → first ≤ final → s < 8 → touches first final s ≡ true → Meets first final s
touched first final s order small is =
    let far : (s + 8 - (first / 16) % 8) % 8 ≤ final / 16 - first / 16 = grind (arith, is) in
    let run : ℕ = first / 16 + (s + 8 - (first / 16) % 8) % 8 in
    (max first (run * 16), omega arith, omega arith, omega arith)

pub touching : (first final s : ℕ) → first ≤ final → s < 8 → Meets first final s → touches first final s ≡ true
touching first final s order small (b, low, high, is) =
    let far : (s + 8 - (first / 16) % 8) % 8 ≤ final / 16 - first / 16 = omega arith in
    grind (arith, far)

pub touches_is : (first final s : ℕ) → first ≤ final → s < 8 → (touches first final s ≡ true) ↔ Meets first final s
touches_is first final s order small = (touched first final s order small, touching first final s order small)

-- the numbers below n that a test picks, in order
abbrev pub chosen : (ℕ → Bool) → ℕ → List ℕ
chosen f zero = []
chosen f (suc n) = chosen f n ++ cond (f n) (n ∷ []) []

among_more : (s y : ℕ) (xs : List ℕ) → IsAmong s (xs ++ y ∷ []) → IsAmong s xs ⊎ (y ≡ s)
among_more s y [] (inl e) = inr e
among_more s y [] (inr i) = absurd i
among_more s y (x ∷ xs) (inl e) = inl (inl e)
among_more s y (x ∷ xs) (inr i) = elim (among_more s y xs i) [ inl j ↦ inl (inr j) | inr e ↦ inr e ]

among_front : (s y : ℕ) (xs : List ℕ) → IsAmong s xs → IsAmong s (xs ++ y ∷ [])
among_front s y [] i = absurd i
among_front s y (x ∷ xs) (inl e) = inl e
among_front s y (x ∷ xs) (inr i) = inr (among_front s y xs i)

among_behind : (y : ℕ) (xs : List ℕ) → IsAmong y (xs ++ y ∷ [])
among_behind y [] = inl refl
among_behind y (x ∷ xs) = inr (among_behind y xs)

rising_more : (y : ℕ) (xs : List ℕ) → IsRising xs → ((s : ℕ) → IsAmong s xs → s < y) → IsRising (xs ++ y ∷ [])
rising_more y [] rising below = ((λ s i. absurd i), tt)
rising_more y (x ∷ xs) rising below = (
  λ s i. elim (among_more s y xs i) [ inl j ↦ rising.0 s j | inr e ↦ subst (λ (t : ℕ). x < t) e (below x (inl refl)) ],
  rising_more y xs rising.1 (λ s i. below s (inr i)),
)

nothing_more : (xs : List ℕ) → xs ++ [] ≡ xs
nothing_more xs = append-nil xs

pub chosen_below : (f : ℕ → Bool) (n s : ℕ) → IsAmong s (chosen f n) → (s < n) × (f s ≡ true)
chosen_below f zero s i = absurd i
chosen_below f (suc n) s i = go (f n) refl (λ j. chosen_below f n s j) i
  where
    go : (b : Bool) → f n ≡ b → (IsAmong s (chosen f n) → (s < n) × (f s ≡ true)) → IsAmong s (chosen f n ++ cond b (n ∷ []) []) → (s < suc n) × (f s ≡ true)
    go true is rest j = elim (among_more s n (chosen f n) j) [
      | inl k ↦ let lt : s < n = (rest k).0 in (omega arith, (rest k).1)
      | inr e ↦ (omega arith, subst (λ (t : ℕ). f t ≡ true) e is)
    ]
    go false is rest j =
        let h : IsAmong s (chosen f n) = subst (λ (xs : List ℕ). IsAmong s xs) (nothing_more (chosen f n)) j in
        let lt : s < n = (rest h).0 in (omega arith, (rest h).1)

pub chosen_among : (f : ℕ → Bool) (n s : ℕ) → s < n → f s ≡ true → IsAmong s (chosen f n)
chosen_among f zero s lt is = absurd (omega arith)
chosen_among f (suc n) s lt is = elim (same_or s n) [
  | inl e ↦
      let here : f n ≡ true = subst (λ (t : ℕ). f t ≡ true) e is in
      subst (λ (b : Bool). IsAmong s (chosen f n ++ cond b (n ∷ []) [])) (sym here)
      (subst (λ (t : ℕ). IsAmong t (chosen f n ++ n ∷ [])) (sym e) (among_behind n (chosen f n)))
  | inr other ↦ go (f n) (chosen_among f n s (omega arith) is)
]
  where
    go : (b : Bool) → IsAmong s (chosen f n) → IsAmong s (chosen f n ++ cond b (n ∷ []) [])
    go true i = among_front s n (chosen f n) i
    go false i = subst (λ (xs : List ℕ). IsAmong s xs) (sym (nothing_more (chosen f n))) i

pub chosen_rising : (f : ℕ → Bool) (n : ℕ) → IsRising (chosen f n)
chosen_rising f zero = tt
chosen_rising f (suc n) = go (f n) (chosen_rising f n)
  where
    go : (b : Bool) → IsRising (chosen f n) → IsRising (chosen f n ++ cond b (n ∷ []) [])
    go true rising = rising_more n (chosen f n) rising (λ s i. (chosen_below f n s i).0)
    go false rising = subst IsRising (sym (nothing_more (chosen f n))) rising

-- the next number is picked, or it isn't
pub chosen_next : (f : ℕ → Bool) (n : ℕ) → f n ≡ true → chosen f (suc n) ≡ chosen f n ++ n ∷ []
chosen_next f n is = ap (λ (b : Bool). chosen f n ++ cond b (n ∷ []) []) is

pub chosen_skip : (f : ℕ → Bool) (n : ℕ) → f n ≡ false → chosen f (suc n) ≡ chosen f n
chosen_skip f n is = ap (λ (b : Bool). chosen f n ++ cond b (n ∷ []) []) is ∙ nothing_more (chosen f n)

-- where every number is picked
pub chosen_all : (f : ℕ → Bool) (n : ℕ) → ((s : ℕ) → f s ≡ true) → chosen f n ≡ chosen (λ s. true) n
chosen_all f zero all = refl
chosen_all f (suc n) all = chosen_next f n (all n) ∙ ap (λ (xs : List ℕ). xs ++ n ∷ []) (chosen_all f n all)

-- a request that has synced what it picks below 8 - n goes on to the next that it picks, or ends with all
pub to_sync_from : (P : Step → Type 0) (A : ℕ) (c : Client) (n : ℕ) (xs : List ℕ) → n ≤ 8 → xs ≡ chosen (syncs A c) (8 - n) →
    (xs ≡ chosen (syncs A c) 8 → P (ToEnd Fine)) →
    ((s : ℕ) → s < 8 → syncs A c s ≡ true → xs ≡ chosen (syncs A c) s → P (ToSync s)) → P (to_sync A c n)
unfolding to_sync
to_sync_from P A c zero xs few so_far over sync = over so_far
to_sync_from P A c (suc n) xs few so_far over sync =
    let below : 8 - suc n ≡ 7 - n = omega arith in
    let here : xs ≡ chosen (syncs A c) (7 - n) = so_far ∙ ap (λ (m : ℕ). chosen (syncs A c) m) below in
    choose P (syncs A c (7 - n)) _ _ (λ is. sync (7 - n) (omega arith) is here)
    (λ is.
    let behind : suc (7 - n) ≡ 8 - n = omega arith in
    let there : xs ≡ chosen (syncs A c) (8 - n) = here ∙ sym (chosen_skip (syncs A c) (7 - n) is) ∙ ap (λ (m : ℕ). chosen (syncs A c) m) behind in
    to_sync_from P A c n xs (omega arith) there over sync)

-- a FLUSH picks every stripe
pub flush_picks : (A : ℕ) (c : Client) (s : ℕ) → is_flush c.ask.kind ≡ true → syncs A c s ≡ true
unfolding syncs
flush_picks A c s is = ap (λ (b : Bool). b || touches (edge A c Head) (edge A c Tail) s) is

pub flush_all : (A : ℕ) (c : Client) → is_flush c.ask.kind ≡ true → chosen (syncs A c) 8 ≡ 0 ∷ 1 ∷ 2 ∷ 3 ∷ 4 ∷ 5 ∷ 6 ∷ 7 ∷ []
flush_all A c is = chosen_all (syncs A c) 8 (λ s. flush_picks A c s is)

-- another request picks the stripes of its blocks
pub own_stripes : (A : ℕ) (c : Client) → is_flush c.ask.kind ≡ false → edge A c Head ≤ edge A c Tail → AreStripes A c (chosen (syncs A c) 8)
unfolding syncs
own_stripes A c other order = record {
  rising = chosen_rising (syncs A c) 8;
  each = λ s. (
    λ i. let (small, is) = chosen_below (syncs A c) 8 s i in touched (edge A c Head) (edge A c Tail) s order small (sym (test s) ∙ is),
    λ meets. let small : s < 8 = inside s meets in
        chosen_among (syncs A c) 8 s small (test s ∙ touching (edge A c Head) (edge A c Tail) s order small meets),
  );
}
  where
    test : (s : ℕ) → syncs A c s ≡ touches (edge A c Head) (edge A c Tail) s
    test s = ap (λ (b : Bool). b || touches (edge A c Head) (edge A c Tail) s) other

    inside : (s : ℕ) → Meets (edge A c Head) (edge A c Tail) s → s < 8
    inside s (b, low, high, is) = omega arith
