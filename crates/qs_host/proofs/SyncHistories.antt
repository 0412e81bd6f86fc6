-- What a log keeps of a history is what decides whether a sync is needed.
use Rattle.std.proofs.Common.{rules, ◌≡◌, ◌≢◌, ℕ, ◌<◌, ◌⊎◌, ◌==◌, ◌||◌, ◌&&◌, Bool, true, false, not, List, [], ◌∷◌, length, slice_index_or, slice_set, refl, sym, ap, ◌∙◌, inl, inr}
use Rattle.std.proofs.lemmas.List.{get_or-set_same, get_or-set_other, get_or-replicate, length-set}
use Rattle.std.proofs.lemmas.Bool.{cases_eq, eq-eqb, ne_eqb}
use Rattle.qs_host.specs.Syncs.{Act, InTurn, has_failed, is_covered, is_going, log_of, needed, stored_since}
use Rattle.qs_host.specs.Syncs.Act.{Began, Ended, Stored}
use Rattle.qs_host.specs.declared.sync_log.SyncNeed.TheVariants.{Fails, Nothing, Call}

bool_differ : false ≡ true → ⊥
bool_differ e = absurd (search rules)

pub failed_of : (history : List Act) → (log_of history).failed ≡ has_failed history
failed_of [] = refl
failed_of (Stored k ∷ older) = failed_of older
failed_of (Began ∷ older) = failed_of older
failed_of (Ended well ∷ older) = ap (λ b. not well || b) (failed_of older)

flags_are_eight : (history : List Act) → length (log_of history).unsynced ≡ 8
flags_are_eight [] = refl
flags_are_eight (Stored k ∷ older) = length-set (log_of older).unsynced k true ∙ flags_are_eight older
flags_are_eight (Began ∷ older) = refl
flags_are_eight (Ended well ∷ older) = flags_are_eight older

flag_set : (flags : List Bool) (j k : ℕ) → j < length flags → (j ≡ k) ⊎ (j ≢ k)
    → slice_index_or (slice_set flags j true) k false ≡ (j == k) || slice_index_or flags k false
flag_set flags j k inside (inl same) = rw (sym same, get_or-set_same flags j true false inside, eq-eqb j j refl) refl
flag_set flags j k inside (inr other) = rw (get_or-set_other flags j k true false (λ e. other (sym e)), ne_eqb j k other) refl

-- a handle's flag stands exactly where something was stored through it since the last sync began
pub flag_of : (history : List Act) (k : ℕ) → InTurn history → k < 8 → slice_index_or (log_of history).unsynced k false ≡ stored_since k history
flag_of [] k in_turn small = get_or-replicate 8 k false false small
flag_of (Stored j ∷ older) k in_turn small =
    let inside : j < length (log_of older).unsynced = rw (flags_are_eight older) in_turn.0 in
    flag_set (log_of older).unsynced j k inside (cases_eq j k) ∙ ap (λ b. (j == k) || b) (flag_of older k in_turn.1 small)
flag_of (Began ∷ older) k in_turn small = get_or-replicate 8 k false false small
flag_of (Ended well ∷ older) k in_turn small = flag_of older k in_turn.1 small

uncovered_stored : (same since covered : Bool) → (since ≡ true → covered ≡ false) → (same || since) ≡ true → (not same && covered) ≡ false
uncovered_stored true since covered older e = refl
uncovered_stored false since covered older e = older e

uncovered_ended : (well since covered : Bool) → (since ≡ true → covered ≡ false) → since ≡ true → ((well && not since) || covered) ≡ false
uncovered_ended true true covered older e = older e
uncovered_ended true false covered older e = sym e
uncovered_ended false since covered older e = older e

-- a handle through which something was stored since the last sync began isn't covered
uncovered : (k : ℕ) (history : List Act) → stored_since k history ≡ true → is_covered k history ≡ false
uncovered k [] e = sym e
uncovered k (Stored j ∷ older) e = uncovered_stored (j == k) (stored_since k older) (is_covered k older) (uncovered k older) e
uncovered k (Began ∷ older) e = absurd (bool_differ e)
uncovered k (Ended well ∷ older) e = uncovered_ended well (stored_since k older) (is_covered k older) (uncovered k older) e

covered_stored : (same since covered : Bool) → (since ≡ false → covered ≡ true) → (same || since) ≡ false → (not same && covered) ≡ true
covered_stored true since covered older e = sym e
covered_stored false since covered older e = older e

covered_ended : (well failed since covered : Bool) → (not well || failed) ≡ false → since ≡ false → ((well && not since) || covered) ≡ true
covered_ended true failed true covered kept e = absurd (bool_differ (sym e))
covered_ended true failed false covered kept e = refl
covered_ended false failed since covered kept e = absurd (bool_differ (sym kept))

-- while no sync goes on and none has failed, every other handle is covered
covered : (k : ℕ) (history : List Act) → has_failed history ≡ false → is_going history ≡ false → stored_since k history ≡ false → is_covered k history ≡ true
covered k [] kept idle e = refl
covered k (Stored j ∷ older) kept idle e = covered_stored (j == k) (stored_since k older) (is_covered k older) (covered k older kept idle) e
covered k (Began ∷ older) kept idle e = absurd (bool_differ (sym idle))
covered k (Ended well ∷ older) kept idle e = covered_ended well (has_failed older) (stored_since k older) (is_covered k older) kept e

pub need_fails : (history : List Act) (k : ℕ) → (log_of history).failed ≡ true → Fails ≡ needed history k
need_fails history k failed = rw (sym (failed_of history) ∙ failed) refl

pub need_call : (history : List Act) (k : ℕ) → InTurn history → k < 8 → (log_of history).failed ≡ false
    → slice_index_or (log_of history).unsynced k false ≡ true → Call ≡ needed history k
need_call history k in_turn small failed flag =
    rw (sym (failed_of history) ∙ failed, uncovered k history (sym (flag_of history k in_turn small) ∙ flag)) refl

pub need_nothing : (history : List Act) (k : ℕ) → InTurn history → is_going history ≡ false → k < 8 → (log_of history).failed ≡ false
    → slice_index_or (log_of history).unsynced k false ≡ false → Nothing ≡ needed history k
need_nothing history k in_turn idle small failed flag =
    let kept : has_failed history ≡ false = sym (failed_of history) ∙ failed in
    let since : stored_since k history ≡ false = sym (flag_of history k in_turn small) ∙ flag in
    rw (kept, covered k history kept idle since) refl
