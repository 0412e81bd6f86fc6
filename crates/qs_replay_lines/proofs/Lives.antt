-- The requests that aren't answered yet, as a map.
use Rattle.std.proofs.Common.{◌≡◌, ℕ, List, [], ◌∷◌, Option, Some, None, true, false, cond, refl, sym, ap, ◌∙◌, subst, inl, inr, true≢false}
use Rattle.std.proofs.lemmas.Option.{none-some}
use Rattle.std.specs.BTreeMap.{Updates, get as entry_at, is_at}
use Rattle.std.specs.Cmp.{eq_by_cmp_equiv}
use Rattle.std.specs.FinMap.{find, from_entries, get, get-from_entries, get-insert, get-remove, insert, remove, same_map}
use Rattle.std.specs.FinSet as set
use Rattle.std.specs.Map.{lookup}
use Rattle.std.specs.Ordering.{eq_by_cmp, is_eq}
use Rattle.qs_cookies.specs.Used.{CookieRuns, by_session}
use Rattle.qs_cookies.proofs.Joined.{no_key, one_key}
use Rattle.qs_cookies.proofs.Runs.{Sets, exact, sets_of, total}
use Rattle.qs_cookies.proofs.Shown.{insert_has, insert_keeps}
use Rattle.qs_replay_lines.specs.Tables.{AreUsed}

found_entry : (es : List ((ℕ × ℕ) × ℕ)) (key : ℕ × ℕ) → find by_session key es ≡ lookup (is_at (by_session key)) es
found_entry [] key = refl
found_entry (e ∷ es) key = ap (cond (is_at (by_session key) e.0) (Some e.1)) (found_entry es key)

-- the map has what the entries have
pub live_get : (live : CookieRuns) (key : ℕ × ℕ) → get (from_entries {R = by_session} live.entries) key ≡ entry_at by_session live key
live_get live key = get-from_entries total live.entries key ∙ found_entry live.entries key

turned : (key other : ℕ × ℕ) → is_eq (by_session key other) ≡ eq_by_cmp by_session other key
turned key other = (eq_by_cmp_equiv total).symm key other

pub live_insert : (old new : CookieRuns) (key : ℕ × ℕ) (n : ℕ) → Updates by_session old new key (Some n) →
    from_entries {R = by_session} new.entries ≡ insert (from_entries old.entries) key n
live_insert old new key n updates = same_map total exact _ _ (λ q. live_get new q ∙ updates.0 q
    ∙ (λ i. cond (turned key q i) (Some n) (sym (live_get old q) i)) ∙ sym (get-insert total (from_entries old.entries) key n q))

pub live_remove : (old new : CookieRuns) (key : ℕ × ℕ) → Updates by_session old new key None →
    from_entries {R = by_session} new.entries ≡ remove (from_entries old.entries) key
live_remove old new key updates = same_map total exact _ _ (λ q. live_get new q ∙ updates.0 q
    ∙ (λ i. cond (turned key q i) None (sym (live_get old q) i)) ∙ sym (get-remove total (from_entries old.entries) key q))

-- what was put in and taken out again
pub live_same : (old mid new : CookieRuns) (key : ℕ × ℕ) (n : ℕ) → entry_at by_session old key ≡ None → Updates by_session old mid key (Some n) → Updates by_session mid new key None →
    from_entries {R = by_session} new.entries ≡ from_entries old.entries
live_same old mid new key n none puts takes = same_map total exact _ _ (λ q. live_get new q ∙ back q ∙ sym (live_get old q))
  where
    put_in : Sets old mid key (Some n)
    put_in = sets_of old mid key (Some n) puts

    taken : Sets mid new key None
    taken = sets_of mid new key None takes

    back : (q : ℕ × ℕ) → entry_at by_session new q ≡ entry_at by_session old q
    back q = elim (one_key q.0 q.1 key.0 key.1) [
      | inl same ↦ ap (entry_at by_session new) same ∙ taken.here ∙ sym none ∙ sym (ap (entry_at by_session old) same)
      | inr other ↦ taken.there q (no_key q.0 q.1 key.0 key.1 other) ∙ put_in.there q (no_key q.0 q.1 key.0 key.1 other)
    ]

-- nothing is kept under a cookie that wasn't used
pub live_none : (used : set.FinSet by_session) (live : CookieRuns) (key : ℕ × ℕ) → AreUsed used live → set.contains used key ≡ false → entry_at by_session live key ≡ None
live_none used live key are unused = go (entry_at by_session live key) refl
  where
    go : (o : Option ℕ) → entry_at by_session live key ≡ o → o ≡ None
    go None is = refl
    go (Some n) is = absurd (true≢false (sym (are key n is) ∙ unused))

-- each request has used its cookie still
pub used_more : (used : set.FinSet by_session) (old new : CookieRuns) (key : ℕ × ℕ) (n : ℕ) → AreUsed used old → Updates by_session old new key (Some n) →
    AreUsed (set.insert used key) new
used_more used old new key n are updates q m is = elim (one_key q.0 q.1 key.0 key.1) [
  | inl same ↦ subst (λ (k : ℕ × ℕ). set.contains (set.insert used key) k ≡ true) (sym same) (insert_has used key.0 key.1)
  | inr other ↦ insert_keeps used key q (are q m (sym ((sets_of old new key (Some n) updates).there q (no_key q.0 q.1 key.0 key.1 other)) ∙ is))
]

pub used_less : (used : set.FinSet by_session) (old new : CookieRuns) (key : ℕ × ℕ) → AreUsed used old → Updates by_session old new key None → AreUsed used new
used_less used old new key are updates q m is = elim (one_key q.0 q.1 key.0 key.1) [
  | inl same ↦ absurd (none-some m (sym (sets_of old new key None updates).here ∙ sym (ap (entry_at by_session new) same) ∙ is))
  | inr other ↦ are q m (sym ((sets_of old new key None updates).there q (no_key q.0 q.1 key.0 key.1 other)) ∙ is)
]

pub used_same : (used : set.FinSet by_session) (old mid new : CookieRuns) (key : ℕ × ℕ) (n : ℕ) → AreUsed used old → Updates by_session old mid key (Some n) →
    Updates by_session mid new key None → AreUsed used new
used_same used old mid new key n are puts takes q m is = elim (one_key q.0 q.1 key.0 key.1) [
  | inl same ↦ absurd (none-some m (sym (sets_of mid new key None takes).here ∙ sym (ap (entry_at by_session new) same) ∙ is))
  | inr other ↦ are q m (sym ((sets_of old mid key (Some n) puts).there q (no_key q.0 q.1 key.0 key.1 other))
      ∙ sym ((sets_of mid new key None takes).there q (no_key q.0 q.1 key.0 key.1 other)) ∙ is)
]
