-- Laws of what a crash leaves of a disk in memory: its stores are written over what it held at the last sync, as far as
-- they are chosen.
use Rattle.std.proofs.Common.{◌≡◌, ◌≢◌, ℕ, Contains, Some, zero, suc, ◌+◌, ◌-◌, ◌*◌, ◌<◌, ◌≤◌, Bool, true, false, cond, List, [], ◌∷◌, ◌++◌, ◌==◌, length, take, drop, map, filter, min, count_by, get_or, refl, sym, ap, subst, ◌∙◌, inl, inr, arith, append-nil}
use Rattle.std.proofs.lemmas.List.{take_all, take_more, get_or_push, get_or_append_left, length-append, drop-drop}
use Rattle.std.proofs.Math.Nat.{mul-le-mul_right}
use Rattle.std.proofs.lemmas.List.Elements.{Contains-get_or}
use Rattle.std.proofs.lemmas.List.Sums.{length-filter}
use Rattle.std.proofs.lemmas.Bool.{eq-eqb, ne_eqb, cases_lt}
use Rattle.std.proofs.lemmas.Bool.Decides.{eqb_tells}
use Rattle.qs_outside.specs.Blocks.{Fixed, Seen, Stored}
use Rattle.qs_outside.specs.declared.crash.CrashChoice.{CrashChoice}
use Rattle.qs_outside.specs.declared.rigged_disk.Plans.{Plans}
use Rattle.qs_outside.specs.Rigged.{no_plans}
use Rattle.qs_outside.specs.Crashes.{Crashes, chosen, left_of, number_of}
use Rattle.qs_outside.specs.Held.{Held, block_of, quiet_seen}
use Rattle.qs_outside.specs.Journal.{AreStoresOf, IsStoreOf, Journal, KeptStore, KeptStores, contents_of, journal_seen, kept_of, past_of, store_at}
use Rattle.qs_outside.proofs.Journals.{contents-push, length-kept}

-- a last content is left where the number is above those of the others
left-last : (past : List (List ℕ)) (y : List ℕ) (n : ℕ) → length past ≤ n → left_of (past ++ y ∷ []) n ≡ y
left-last past y n h =
    let at : min n (length (past ++ y ∷ []) - 1) ≡ length past = simp (length-append) (omega arith) in
    rw at (get_or_push past y [] (length past) refl)

-- and else what is left without it
left-first : (past : List (List ℕ)) (y : List ℕ) (n : ℕ) → n < length past → left_of (past ++ y ∷ []) n ≡ left_of past n
left-first past y n h =
    let one : min n (length (past ++ y ∷ []) - 1) ≡ n = simp (length-append) (omega arith) in
    let two : min n (length past - 1) ≡ n = omega arith in
    rw (one, two) (get_or_append_left past (y ∷ []) [] n h)

-- the contents of the store's block, and of another one, behind one more store
contents-same : (b : ℕ) (stores : List KeptStore) (store : KeptStore) → store.block ≡ b → contents_of b (stores ++ store ∷ []) ≡ contents_of b stores ++ store.bytes ∷ []
contents-same b stores store same = contents-push b store.block stores store.bytes ∙ rw (eq-eqb store.block b same) refl

contents-other : (b : ℕ) (stores : List KeptStore) (store : KeptStore) → store.block ≢ b → contents_of b (stores ++ store ∷ []) ≡ contents_of b stores
contents-other b stores store other = contents-push b store.block stores store.bytes ∙ rw (ne_eqb store.block b other, append-nil) refl

-- which of a block's contents is left behind the first stores, where all else is as it was before
abbrev pub Left : (ℕ → ℕ) → List KeptStore → (ℕ → List ℕ) → (ℕ → List ℕ) → Type 0
Left number stores first now = (b : ℕ) → now b ≡ left_of (first b ∷ contents_of b stores) (number b)

-- one store that is taken
taken : (number : ℕ → ℕ) (stores : List KeptStore) (store : KeptStore) (first old new : ℕ → List ℕ) → length (contents_of store.block stores) < number store.block
    → Stored store.block store.bytes old new → Left number stores first old → Left number (stores ++ store ∷ []) first new
taken number stores store first old new above stored left b =
    elim (eqb_tells store.block b) [
      | inl same ↦
          rw (contents-same b stores store same.1)
          (subst (λ c. new c ≡ left_of (first c ∷ (contents_of c stores ++ store.bytes ∷ [])) (number c)) same.1
          (stored.here ∙ sym (left-last (first store.block ∷ contents_of store.block stores) store.bytes (number store.block) above)))
      | inr other ↦ rw (contents-other b stores store other.1) (stored.others b (λ e. other.1 (sym e)) ∙ left b)
    ]

-- and one that isn't
passed : (number : ℕ → ℕ) (stores : List KeptStore) (store : KeptStore) (first now : ℕ → List ℕ) → number store.block ≤ length (contents_of store.block stores)
    → Left number stores first now → Left number (stores ++ store ∷ []) first now
passed number stores store first now below left b =
    elim (eqb_tells store.block b) [
      | inl same ↦
          rw (contents-same b stores store same.1)
          (subst (λ c. now c ≡ left_of (first c ∷ (contents_of c stores ++ store.bytes ∷ [])) (number c)) same.1
          (left store.block ∙ sym (left-first (first store.block ∷ contents_of store.block stores) store.bytes (number store.block) (omega (arith, below)))))
      | inr other ↦ rw (contents-other b stores store other.1) (left b)
    ]

-- one step of a replay
pub left-more : (number : ℕ → ℕ) (stores : List KeptStore) (j : ℕ) (first : ℕ → List ℕ) (old new : Held) → j < length stores
    → (length (contents_of (store_at stores j).block (take j stores)) < number (store_at stores j).block
    → Stored (store_at stores j).block (store_at stores j).bytes (block_of old) (block_of new))
    → (number (store_at stores j).block ≤ length (contents_of (store_at stores j).block (take j stores)) → new ≡ old)
    → Left number (take j stores) first (block_of old) → Left number (take (j + 1) stores) first (block_of new)
left-more number stores j first old new inside stored same left =
    let none : KeptStore = record { block = 0; bytes = [] } in
    subst (λ (l : List KeptStore). Left number l first (block_of new)) (sym (take_more stores j none inside))
    (elim (cases_lt (length (contents_of (store_at stores j).block (take j stores))) (number (store_at stores j).block)) [
      | inl above ↦ taken number (take j stores) (store_at stores j) first (block_of old) (block_of new) above (stored above) left
      | inr below ↦ subst (λ (h : Held). Left number (take j stores ++ store_at stores j ∷ []) first (block_of h)) (sym (same below))
          (passed number (take j stores) (store_at stores j) first (block_of old) below left)
    ])

pub left-none : (number : ℕ → ℕ) (stores : List KeptStore) (first : ℕ → List ℕ) → Left number (take 0 stores) first first
left-none number stores first b = let at : min (number b) 0 ≡ 0 = omega arith in rw at refl

pub left-all : (number : ℕ → ℕ) (stores : List KeptStore) (first now : ℕ → List ℕ) (n : ℕ) → n ≡ length stores → Left number (take n stores) first now
    → Left number stores first now
left-all number stores first now n e left = subst (λ (l : List KeptStore). Left number l first now) (take_all n stores (omega (arith, e))) left

-- a kept store is its block and its bytes
pub kept-at : (align : ℕ) (blocks bytes : List ℕ) (j : ℕ) → j < length blocks
    → store_at (kept_of align blocks bytes) j ≡ record { block = get_or blocks j 0; bytes = take align (drop (j * align) bytes) }
kept-at align [] bytes j inside = absurd (omega arith)
kept-at align (b ∷ blocks) bytes zero inside = let at : zero * align ≡ 0 = omega arith in rw at refl
kept-at align (b ∷ blocks) bytes (suc j) inside =
    let at : align + j * align ≡ suc j * align = omega arith in
    kept-at align blocks (drop align bytes) j (omega arith)
    ∙ ap (λ (xs : List ℕ). record { block = get_or blocks j 0; bytes = take align xs }) (drop-drop (j * align) align bytes ∙ ap (λ n. drop n bytes) at)

-- how often a block is among the first ones is how many contents it has
either : (t : Bool) (x : ℕ) (xs : List ℕ) (s : KeptStore) (ss : List KeptStore) → length xs ≡ length (map (λ (k : KeptStore). k.bytes) ss)
    → length (cond t (x ∷ xs) xs) ≡ length (map (λ (k : KeptStore). k.bytes) (cond t (s ∷ ss) ss))
either true x xs s ss e = ap (λ n. suc n) e
either false x xs s ss e = e

filtered : (b align : ℕ) (blocks bytes : List ℕ) (j : ℕ) → length (filter (λ c. c == b) (take j blocks)) ≡ length (contents_of b (take j (kept_of align blocks bytes)))
filtered b align blocks bytes zero = refl
filtered b align [] bytes (suc j) = refl
filtered b align (c ∷ blocks) bytes (suc j) = either (c == b) c _ (record { block = c; bytes = take align bytes }) _ (filtered b align blocks (drop align bytes) j)

pub times-kept : (b align : ℕ) (blocks bytes : List ℕ) (j : ℕ) → count_by (λ c. c == b) (take j blocks) ≡ length (contents_of b (take j (kept_of align blocks bytes)))
times-kept b align blocks bytes j = sym (length-filter (λ c. c == b) (take j blocks)) ∙ filtered b align blocks bytes j

-- one more pair
pub number-more : (rest : ℕ) (picks : List (ℕ × ℕ)) (pair : ℕ × ℕ) (b : ℕ) → number_of rest (picks ++ pair ∷ []) b ≡ cond (pair.0 == b) pair.1 (number_of rest picks b)
number-more rest [] pair b = refl
number-more rest (p ∷ picks) pair b = number-more (cond (p.0 == b) p.1 rest) picks pair b

-- whole stores stay so
pub stores-kept : (old new : Held) (stores : List KeptStore) → Fixed (quiet_seen old) (quiet_seen new) → AreStoresOf old stores → AreStoresOf new stores
stores-kept old new stores fixed whole j inside = record {
  block = record {
    here = (whole j inside).block.here ∙ sym fixed.stripe;
    inside = rw (fixed.align, fixed.size) (whole j inside).block.inside;
  };
  whole = (whole j inside).whole ∙ sym fixed.align;
}

pub stores-pushed : (disk : Held) (stores : List KeptStore) (store : KeptStore) → AreStoresOf disk stores → IsStoreOf disk store → AreStoresOf disk (stores ++ store ∷ [])
stores-pushed disk stores store whole last j inside =
    let none : KeptStore = record { block = 0; bytes = [] } in
    elim (cases_lt j (length stores)) [
      | inl before ↦ subst (IsStoreOf disk) (sym (get_or_append_left stores (store ∷ []) none j before)) (whole j before)
      | inr at ↦ subst (IsStoreOf disk) (sym (get_or_push stores store none j (let n = length-append stores (store ∷ []) in omega (arith, at, inside, n)))) last
    ]

-- the facts that a list's view tells
pub count-is : (align room : ℕ) (blocks bytes : List ℕ) (log : KeptStores) → record { align = align; room = room; stores = kept_of align blocks bytes } ≡ log
    → length log.stores ≡ length blocks
count-is align room blocks bytes log is = sym (ap (λ (s : KeptStores). length s.stores) is) ∙ length-kept align blocks bytes

pub store-is : (align room : ℕ) (blocks bytes : List ℕ) (log : KeptStores) (j : ℕ) → record { align = align; room = room; stores = kept_of align blocks bytes } ≡ log
    → j < length log.stores → store_at log.stores j ≡ record { block = get_or blocks j 0; bytes = take align (drop (j * align) bytes) }
store-is align room blocks bytes log j is inside =
    sym (ap (λ (s : KeptStores). store_at s.stores j) is) ∙ kept-at align blocks bytes j (omega (arith, inside, count-is align room blocks bytes log is))

pub times-are : (align room : ℕ) (blocks bytes : List ℕ) (log : KeptStores) (j b : ℕ) → record { align = align; room = room; stores = kept_of align blocks bytes } ≡ log
    → count_by (λ c. c == b) (take j blocks) ≡ length (contents_of b (take j log.stores))
times-are align room blocks bytes log j b is =
    times-kept b align blocks bytes j ∙ ap (λ (s : KeptStores). length (contents_of b (take j s.stores))) is

pub number-step : (rest : ℕ) (picks : List (ℕ × ℕ)) (i b : ℕ) (none : ℕ × ℕ) → i < length picks
    → number_of rest (take (i + 1) picks) b ≡ cond ((get_or picks i none).0 == b) (get_or picks i none).1 (number_of rest (take i picks) b)
number-step rest picks i b none inside = rw (take_more picks i none inside) (number-more rest (take i picks) (get_or picks i none) b)

pub fixed-through : {old between new : Seen} → Fixed old between → Fixed between new → Fixed old new
fixed-through first second = record {
  stripe = second.stripe ∙ first.stripe;
  align = second.align ∙ first.align;
  size = second.size ∙ first.size;
  tells = second.tells ∙ first.tells;
}

-- the bytes of each store stand among those that are kept
pub store-inside : (align room : ℕ) (blocks bytes : List ℕ) (log : KeptStores) (j n m : ℕ) → record { align = align; room = room; stores = kept_of align blocks bytes } ≡ log
    → j < length log.stores → n ≡ length blocks → m ≡ n * align → j * align + align ≤ m
store-inside align room blocks bytes log j n m is inside items whole =
    let count = count-is align room blocks bytes log is in
    let below : j + 1 ≤ n = omega (arith, inside, count, items) in
    omega (arith, mul-le-mul_right align below, whole)

-- what is left is among what may be
pub left-among : (first : List ℕ) (rest : List (List ℕ)) (n : ℕ) (now : List ℕ) → now ≡ left_of (first ∷ rest) n → Contains (first ∷ rest) now
left-among first rest n now is =
    let below : min n (length (first ∷ rest) - 1) < length (first ∷ rest) = omega arith in
    subst (Contains (first ∷ rest)) (sym is) (Contains-get_or (first ∷ rest) (min n (length (first ∷ rest) - 1)) [] below)

-- the blocks were replayed, and taken over
pub disk-crashed : (choice : CrashChoice) (old new : Journal) → ((b : ℕ) → block_of new.synced b ≡ left_of (past_of old b) (chosen choice b)) → new.now ≡ new.synced
    → Fixed (quiet_seen old.now) (quiet_seen new.now) → new.stores ≡ [] → new.planned ≡ no_plans → new.faults ≡ old.faults
    → Crashes choice (journal_seen old) (journal_seen new)
disk-crashed choice old new left now fixed stores planned faults =
    let is : (b : ℕ) → block_of new.now b ≡ left_of (past_of old b) (chosen choice b) = λ b. rw now (left b) in
    record {
      fixed = record { stripe = fixed.stripe; align = fixed.align; size = fixed.size; tells = refl };
      now = λ told b. is b;
      among = λ told b. left-among (block_of old.synced b) (contents_of b old.stores) (chosen choice b) (block_of new.now b) (is b);
      past = λ told b. rw (stores, now) refl;
      planned = ap (λ (p : Plans). Some p) planned;
      faults = faults;
    }

pub fixed-beside : {old one other : Seen} → Fixed old one → Fixed old other → Fixed one other
fixed-beside first second = record {
  stripe = second.stripe ∙ sym first.stripe;
  align = second.align ∙ sym first.align;
  size = second.size ∙ sym first.size;
  tells = second.tells ∙ sym first.tells;
}
