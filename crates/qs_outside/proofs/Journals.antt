-- Laws of the stores that a disk in memory keeps.
use Rattle.std.proofs.Common.{◌≡◌, ◌≢◌, ℕ, suc, ◌*◌, ◌<◌, ◌≤◌, Bool, true, false, Some, None, ◌⊎◌, List, [], ◌∷◌, ◌++◌, ◌==◌, length, take, drop, map, refl, sym, ap, subst, ◌∙◌, inl, inr, arith, append-nil}
use Rattle.std.specs.List.{AllByRecursion, Contains}
use Rattle.std.proofs.lemmas.List.{map-append, take_all, take-append-le, length-drop}
use Rattle.std.proofs.lemmas.List.Elements.{filter-append, recursion_from_All, All-contains_itself, Contains-push}
use Rattle.std.proofs.lemmas.Bool.{eq-eqb, ne_eqb}
use Rattle.std.proofs.Math.Seq.{drop-append-le}
use Rattle.qs_outside.specs.Blocks.{MayLeave}
use Rattle.std.proofs.lemmas.Bool.Decides.{nat_tests}
use Rattle.std.specs.Prelude.{nat_le}
use Rattle.qs_outside.specs.Held.{Held, block_of}
use Rattle.qs_outside.specs.Journal.{Journal, KeptStore, contents_of, journal_seen, kept_of, past_of}
use Rattle.qs_outside.specs.Rigged.{AsPlanned, LeftAsPlanned}

pub length-kept : (align : ℕ) (blocks bytes : List ℕ) → length (kept_of align blocks bytes) ≡ length blocks
length-kept align [] bytes = refl
length-kept align (b ∷ blocks) bytes = ap (λ n. suc n) (length-kept align blocks (drop align bytes))

-- one more block and its bytes are one more store
pub kept-push : (align : ℕ) (blocks bytes : List ℕ) (b : ℕ) (piece : List ℕ) → length bytes ≡ length blocks * align → length piece ≡ align
    → kept_of align (blocks ++ b ∷ []) (bytes ++ piece) ≡ kept_of align blocks bytes ++ (record { block = b; bytes = piece }) ∷ []
kept-push align [] [] b piece whole same = ap (λ (xs : List ℕ). (record { block = b; bytes = xs }) ∷ []) (take_all align piece (omega arith))
kept-push align [] (x ∷ bytes) b piece whole same = absurd (omega arith)
kept-push align (c ∷ blocks) bytes b piece whole same =
    let enough : align ≤ length bytes = omega arith in
    let rest : length (drop align bytes) ≡ length blocks * align = omega (arith, length-drop align bytes) in
    let first : List ℕ → List KeptStore → List KeptStore = λ xs ys. (record { block = c; bytes = xs }) ∷ ys in
    rw (take-append-le, drop-append-le align bytes piece enough) (ap (first (take align bytes)) (kept-push align blocks (drop align bytes) b piece rest same))

pub contents-push : (c b : ℕ) (stores : List KeptStore) (piece : List ℕ) → contents_of c (stores ++ (record { block = b; bytes = piece }) ∷ [])
    ≡ contents_of c stores ++ contents_of c ((record { block = b; bytes = piece }) ∷ [])
contents-push c b stores piece =
    let more : List KeptStore = (record { block = b; bytes = piece }) ∷ [] in
    ap (map (λ (s : KeptStore). s.bytes)) (filter-append (λ (s : KeptStore). s.block == c) stores more) ∙ map-append (λ (s : KeptStore). s.bytes) _ _

-- what a crash may leave of the block that was stored
pub past-stored : (old new : Journal) (b : ℕ) (piece : List ℕ) → new.synced ≡ old.synced → new.stores ≡ old.stores ++ (record { block = b; bytes = piece }) ∷ []
    → past_of new b ≡ past_of old b ++ piece ∷ []
past-stored old new b piece synced stores =
    rw (synced, stores, contents-push b b old.stores piece, eq-eqb b b refl) refl

-- and of every other block
past-kept : (old new : Journal) (b c : ℕ) (piece : List ℕ) → new.synced ≡ old.synced → new.stores ≡ old.stores ++ (record { block = b; bytes = piece }) ∷ []
    → c ≢ b → past_of new c ≡ past_of old c
past-kept old new b c piece synced stores differ =
    rw (synced, stores, contents-push c b old.stores piece, ne_eqb b c (λ e. differ (sym e)), append-nil) refl

all-push : {X : Type 0} (P : X → Type 0) → (xs : List X) (x : X) → AllByRecursion P xs → P x → AllByRecursion P (xs ++ x ∷ [])
all-push P [] x all last = (last, tt)
all-push P (y ∷ xs) x all last = (all.0, all-push P xs x all.1 last)

all-weaker : {X : Type 0} (P Q : X → Type 0) → ((x : X) → P x → Q x) → (xs : List X) → AllByRecursion P xs → AllByRecursion Q xs
all-weaker P Q weaker [] all = tt
all-weaker P Q weaker (x ∷ xs) all = (weaker x all.0, all-weaker P Q weaker xs all.1)

-- each of a list is among it, or is the piece
all-among : (xs : List (List ℕ)) (piece : List ℕ) → AllByRecursion (λ c. (c ≡ piece) ⊎ Contains xs c) xs
all-among xs piece = all-weaker (Contains xs) (λ c. (c ≡ piece) ⊎ Contains xs c) (λ c among. inr among) xs (recursion_from_All (Contains xs) xs (All-contains_itself xs))

pub may_leave-stored : (old new : Journal) (b : ℕ) (piece : List ℕ) → new.synced ≡ old.synced → new.stores ≡ old.stores ++ (record { block = b; bytes = piece }) ∷ []
    → MayLeave b piece (past_of old) (past_of new)
may_leave-stored old new b piece synced stores = record {
  here = subst (AllByRecursion (λ c. (c ≡ piece) ⊎ Contains (past_of old b) c)) (sym (past-stored old new b piece synced stores))
      (all-push (λ c. (c ≡ piece) ⊎ Contains (past_of old b) c) (past_of old b) piece (all-among (past_of old b) piece) (inl refl));
  others = λ c differ. past-kept old new b c piece synced stores differ;
}

-- where nothing is stored nothing changes
pub may_leave-kept : (old new : Journal) (b : ℕ) (piece : List ℕ) → new.synced ≡ old.synced → new.stores ≡ old.stores → MayLeave b piece (past_of old) (past_of new)
may_leave-kept old new b piece synced stores =
    let same : (c : ℕ) → past_of new c ≡ past_of old c = λ c. rw (synced, stores) refl in
    record {
      here = subst (AllByRecursion (λ c. (c ≡ piece) ⊎ Contains (past_of old b) c)) (sym (same b)) (all-among (past_of old b) piece);
      others = λ c differ. same c;
    }

-- what was stored is among what a crash may leave
pub past-now : (old new : Journal) (b : ℕ) (piece : List ℕ) → new.synced ≡ old.synced → new.stores ≡ old.stores ++ (record { block = b; bytes = piece }) ∷ []
    → block_of new.now b ≡ piece → Contains (past_of new b) (block_of new.now b)
past-now old new b piece synced stores now =
    let last : Contains (past_of old b ++ piece ∷ []) (block_of new.now b) = rw now (Contains-push (past_of old b) piece) in
    subst (λ (xs : List (List ℕ)). Contains xs (block_of new.now b)) (sym (past-stored old new b piece synced stores)) last

-- a store that wasn't planned to fail
pub none_planned : (old new : Journal) (b : ℕ) (piece : List ℕ) → old.planned.store ≡ None → AsPlanned b piece (journal_seen old) (journal_seen new)
none_planned old new b piece none = λ writes told is. absurd (never writes (sym none ∙ is))
  where
    never : (writes : Bool) → None ≡ Some writes → ⊥
    never writes e = cc

-- whether a disk is full
not_full : (room n : ℕ) → room ≤ n → Some (nat_le room n) ≡ Some false → ⊥
not_full room n full is = let f : nat_le room n ≡ false = cc in grind (arith, nat_tests, full, f)

not_room : (room n : ℕ) → n < room → Some (nat_le room n) ≡ Some true → ⊥
not_room room n low is = let f : nat_le room n ≡ true = cc in grind (arith, nat_tests, low, f)

-- on a full disk
pub full_planned : (old new : Journal) (b : ℕ) (piece : List ℕ) → old.room ≤ length old.stores → new.now ≡ old.now → new.synced ≡ old.synced → new.stores ≡ old.stores
    → AsPlanned b piece (journal_seen old) (journal_seen new)
full_planned old new b piece full now synced stores = λ writes told is. record {
  left = λ open_. absurd (not_full old.room (length old.stores) full open_);
  past = λ open_. absurd (not_full old.room (length old.stores) full open_);
  full_now = λ _ c. ap (λ (h : Held). block_of h c) now;
  full_past = λ _ c. rw (synced, stores) refl;
}

-- a planned store on a disk that isn't full
pub store_planned : (old new : Journal) (b : ℕ) (piece : List ℕ) (writes : Bool) → length old.stores < old.room → old.planned.store ≡ Some writes
    → LeftAsPlanned writes b piece (journal_seen old) (journal_seen new) → new.synced ≡ old.synced → new.stores ≡ old.stores ++ (record { block = b; bytes = piece }) ∷ []
    → AsPlanned b piece (journal_seen old) (journal_seen new)
store_planned old new b piece writes room planned left synced stores = λ other told is. record {
  left = λ _. let same : writes ≡ other = cc in subst (λ (w : Bool). LeftAsPlanned w b piece (journal_seen old) (journal_seen new)) same left;
  past = λ _. subst (λ (xs : List (List ℕ)). Contains xs piece) (sym (past-stored old new b piece synced stores)) (Contains-push (past_of old b) piece);
  full_now = λ full. absurd (not_room old.room (length old.stores) room full);
  full_past = λ full. absurd (not_room old.room (length old.stores) room full);
}
