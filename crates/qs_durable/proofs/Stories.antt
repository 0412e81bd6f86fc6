-- A request that was answered Fine, and that has to sync, synced since it entered, and since its last store.
use Rattle.std.proofs.Common.{◌≡◌, ℕ, zero, suc, ◌/◌, ◌<◌, ◌⊎◌, inl, inr, Bool, true, false, ◌==◌, cond, List, [], ◌∷◌, ◌++◌, Option, Some, None, refl, sym, ap, ◌∙◌, subst, arith}
use Rattle.qs_bytes.specs.Geometry.{stripe_of}
use Rattle.qs_bytes.specs.declared.ask.Kind.TheVariants.{Flush}
use Rattle.qs_bytes.specs.declared.ask.Verdict.TheVariants.{Fine}
use Rattle.qs_cells.specs.declared.cell.CellEntry.TheVariants.{Read, Write, Maybe}
use Rattle.qs_model.specs.Requests.{Client, Stage, body_at, covers}
use Rattle.qs_model.specs.Worlds.{World}
use Rattle.qs_model.specs.Acts.{Act, Answers, Waits, Enters, Routes, Shuts, Lists, Starts, Loads, LoadFails, Holds, HoldFails, Stores, StoreFails, Syncs, Cleans, SyncFails, Frees, Ends, Element, Attached, NoExport, Crowded, Left, Detached, NotAttached, Asked, Did, Exported, Planned, Crashed}
use Rattle.qs_model.specs.Histories.{Answered, cell_at, cell_of, reads_in, writes_in}
use Rattle.qs_model.specs.Laws.{ComesBehind}
use Rattle.qs_model.specs.Steps.{Runs}
use Rattle.qs_model.proofs.Basics.{block_high, block_low, choose}
use Rattle.qs_model.proofs.Facts.{Ok}
use Rattle.qs_model.proofs.Geometry.{Reaches, covered_reached}
use Rattle.qs_model.proofs.Kept.{split_run}
use Rattle.qs_verdicts.specs.Lists.{IsAmong}
use Rattle.qs_verdicts.specs.Stories.{HasStory, Story, begun, sent, told, told_from, told_row, told_step}
use Rattle.qs_verdicts.specs.Verdicts.{AreStripes, IsByTable, is_forced}
use Rattle.qs_verdicts.proofs.Folds.{if_same, told_more}
use Rattle.qs_verdicts.proofs.Stories.{Told, all_told, ask_step}
use Rattle.qs_verdicts.proofs.Telling.{Stands}
use Rattle.qs_verdicts.proofs.Verdicts.{verdicts}
use Rattle.qs_durable.specs.Bounds.{IsEnter, IsEnterRow, IsSynced, IsSyncedRow, SyncedSince}
use Rattle.qs_durable.proofs.Positions.{before_step}

-- a story with stripe s among those that were synced since the last store
abbrev pub Had : ℕ → Option Story → Type 0
Had s None = ⊥
Had s (Some n) = IsAmong s n.synced

among_more : (s t : ℕ) (xs : List ℕ) → IsAmong s (xs ++ t ∷ []) → IsAmong s xs ⊎ (t ≡ s)
among_more s t [] (inl e) = inr e
among_more s t [] (inr h) = absurd h
among_more s t (x ∷ xs) (inl e) = inl (inl e)
among_more s t (x ∷ xs) (inr h) = elim (among_more s t xs h) [ inl e ↦ inl (inr e) | inr e ↦ inr e ]

-- a stripe comes into a story by a sync alone
had_row : (A s : ℕ) (n : Story) {stage : Stage} (act : Act stage) → IsAmong s (told_row A n act).synced → IsAmong s n.synced ⊎ IsSyncedRow s act
had_row A s n Answers h = inl h
had_row A s n (Waits wait) h = inl h
had_row A s n (Enters k) h = inl h
had_row A s n (Routes route) h = inl h
had_row A s n Shuts h = inl h
had_row A s n (Lists m) h = inl h
had_row A s n Starts h = inl h
had_row A s n (Loads bytes) h = inl h
had_row A s n LoadFails h = inl h
had_row A s n (Holds bytes) h = inl h
had_row A s n HoldFails h = inl h
had_row A s n (Stores bytes past) h = absurd h
had_row A s n (StoreFails bytes took past) h = absurd h
had_row A s n (Syncs {s = t}) h = among_more s t n.synced h
had_row A s n (Cleans {s = t}) h = among_more s t n.synced h
had_row A s n SyncFails h = inl h
had_row A s n Frees h = inl h
had_row A s n Ends h = inl h

had_step : (A r s : ℕ) (o : Option Story) (e : Element) → Had s (told_step A r o e) → Had s o ⊎ IsSynced s e
had_step A r s o (Asked t c) h =
    choose (λ p. Had s p → Had s o ⊎ IsSynced s (Asked t c)) (t == r) (Some (begun c)) o (λ e k. absurd k) (λ e k. inl k) (subst (Had s) (ask_step A r t c o) h)
had_step A r s (Some n) (Left t e) h =
    inl (choose (λ m. IsAmong s m.synced → IsAmong s n.synced) (n.client.session == t) (record n { left = true }) n (λ e k. k) (λ e k. k) h)
had_step A r s None (Left t e) h = absurd h
had_step A r s (Some n) (Did t q act) h =
    choose (λ m. IsAmong s m.synced → IsAmong s n.synced ⊎ IsSyncedRow s act) (t == r) (told_row A n act) n (λ e k. had_row A s n act k) (λ e k. inl k) h
had_step A r s None (Did t q act) h = absurd h
had_step A r s (Some n) (Crashed left) h = absurd h
had_step A r s None (Crashed left) h = absurd h
had_step A r s None (Attached t name info) h = absurd h
had_step A r s (Some n) (Attached t name info) h = inl h
had_step A r s None (NoExport t name) h = absurd h
had_step A r s (Some n) (NoExport t name) h = inl h
had_step A r s None (Crowded t name) h = absurd h
had_step A r s (Some n) (Crowded t name) h = inl h
had_step A r s None (Detached t e) h = absurd h
had_step A r s (Some n) (Detached t e) h = inl h
had_step A r s None (NotAttached t e) h = absurd h
had_step A r s (Some n) (NotAttached t e) h = inl h
had_step A r s None (Exported op e) h = absurd h
had_step A r s (Some n) (Exported op e) h = inl h
had_step A r s None (Planned j fail) h = absurd h
had_step A r s (Some n) (Planned j fail) h = inl h

-- a sync in a list is one in a longer list
later_sync : (s : ℕ) (e : Element) (es : List Element) → SyncedSince s [] es → SyncedSince s [] (e ∷ es)
later_sync s e es h = record {
  position = e ∷ h.position;
  sync = h.sync;
  later = (e ∷ h.position, refl);
  before = (h.before.0, ap (λ (l : List Element). e ∷ l) h.before.1);
  synced = h.synced;
}

had_run : (A r s : ℕ) (o : Option Story) (es : List Element) → Had s (told_from A r o es) → Had s o ⊎ SyncedSince s [] es
had_run A r s o [] h = inl h
had_run A r s o (e ∷ es) h = elim (had_run A r s (told_step A r o e) es h) [
  | inl here ↦ elim (had_step A r s o e here) [
    | inl old ↦ inl old
    | inr is ↦ inr (record { position = []; sync = e; later = ([], refl); before = (es, refl); synced = is })
  ]
  | inr there ↦ inr (later_sync s e es there)
]

told_append : (A r : ℕ) (o : Option Story) (xs ys : List Element) → told_from A r o (xs ++ ys) ≡ told_from A r (told_from A r o xs) ys
told_append A r o [] ys = refl
told_append A r o (e ∷ xs) ys = told_append A r (told_step A r o e) xs ys

-- a request that has stripe s in its story, and hadn't before, synced it between
pub synced_between : (A r s : ℕ) (front between : List Element) → (Had s (told A r front) → ⊥) → Had s (told A r (front ++ between)) → SyncedSince s [] between
synced_between A r s front between none h =
    elim (had_run A r s (told A r front) between (subst (Had s) (told_append A r None front between) h)) [
      | inl old ↦ absurd (none old)
      | inr is ↦ is
    ]

-- no stripe was synced where a request enters
enter_row : (A s : ℕ) (n : Story) {stage : Stage} (act : Act stage) → IsEnterRow act → Stands A n stage → IsAmong s n.synced → ⊥
enter_row A s n (Enters k) is at h = subst (IsAmong s) at.synced h
enter_row A s n _ is at h = absurd is

entered_row : (s : ℕ) {stage : Stage} (act : Act stage) → IsEnterRow act → IsSyncedRow s act → ⊥
entered_row s (Enters k) is sync = sync
entered_row s _ is sync = absurd is

entered_step : (r s : ℕ) (e : Element) → IsEnter r e → IsSynced s e → ⊥
entered_step r s (Did t q act) is sync = entered_row s act is.1 sync
entered_step r s _ is sync = absurd is

pub entered_none : (A : ℕ) (w : World) (es front : List Element) (r s : ℕ) (enter : Element) → 0 < A → Ok A w → ((k : ℕ) → w.req k ≡ None) → Runs A w es →
    ComesBehind front enter es → IsEnter r enter → Had s (told A r (front ++ enter ∷ [])) → ⊥
entered_none A w es front r s (Did t q act) pos ok none run at is h =
    let may = (split_run A w es front (Did t q act) run at).1 in
    let o : Told A t front q = all_told A w es front pos ok none run (before_step front (Did t q act) es at) t q may.0 in
    elim (had_step A r s (told A r front) (Did t q act) (subst (Had s) (told_more A r None front (Did t q act)) h)) [
      | inl old ↦ enter_row A s o.story act is.1 o.stands (subst (Had s) (ap (λ (k : ℕ). told A k front) (sym is.0) ∙ o.is) old)
      | inr sync ↦ entered_row s act is.1 sync
    ]
entered_none A w es front r s _ pos ok none run at is h = absurd is

-- no stripe was synced since a store
pub record Clears (A r : ℕ) (s : ℕ) {stage : Stage} (act : Act stage) : Type 0 where
  pub number : s ≡ r
  pub clears : (n : Story) → (told_row A n act).synced ≡ []

nothing_one : {X : Type 0} (x : X) → [] ≡ x ∷ [] → ⊥
nothing_one x e = cc

read_write : (t : Bool) (s u r v : ℕ) → cond t (Read s u ∷ []) [] ≡ Write r v ∷ [] → ⊥
read_write true s u r v e = cc
read_write false s u r v e = cc

maybe_write : (t : Bool) (s u r v : ℕ) (took : Bool) → cond t (Maybe s u took ∷ []) [] ≡ Write r v ∷ [] → ⊥
maybe_write true s u r v took e = cc
maybe_write false s u r v took e = cc

write_write : (t : Bool) (s u r v : ℕ) → cond t (Write s u ∷ []) [] ≡ Write r v ∷ [] → s ≡ r
write_write true s u r v e = cc
write_write false s u r v e = absurd (nothing_one _ e)

write_row : (A x s r v : ℕ) (c : Client) {stage : Stage} (act : Act stage) → cell_of A x s c act ≡ Write r v ∷ [] → Clears A r s act
write_row A x s r v c (Stores {b = b} bytes past) is = record { number = write_write (writes_in A c b x) s (body_at c x) r v is; clears = λ n. refl }
write_row A x s r v c (StoreFails {b = b} bytes took past) is = absurd (maybe_write (writes_in A c b x) s (body_at c x) r v took is)
write_row A x s r v c (Loads {b = b} bytes) is = absurd (read_write (reads_in A c b x) s _ r v is)
write_row A x s r v c Answers is = absurd (nothing_one _ is)
write_row A x s r v c (Waits wait) is = absurd (nothing_one _ is)
write_row A x s r v c (Enters k) is = absurd (nothing_one _ is)
write_row A x s r v c (Routes route) is = absurd (nothing_one _ is)
write_row A x s r v c Shuts is = absurd (nothing_one _ is)
write_row A x s r v c (Lists m) is = absurd (nothing_one _ is)
write_row A x s r v c Starts is = absurd (nothing_one _ is)
write_row A x s r v c LoadFails is = absurd (nothing_one _ is)
write_row A x s r v c (Holds bytes) is = absurd (nothing_one _ is)
write_row A x s r v c HoldFails is = absurd (nothing_one _ is)
write_row A x s r v c Syncs is = absurd (nothing_one _ is)
write_row A x s r v c Cleans is = absurd (nothing_one _ is)
write_row A x s r v c SyncFails is = absurd (nothing_one _ is)
write_row A x s r v c Frees is = absurd (nothing_one _ is)
write_row A x s r v c Ends is = absurd (nothing_one _ is)

write_step : (A x r s v : ℕ) (o : Option Story) (e : Element) → cell_at A x e ≡ Write r v ∷ [] → Had s (told_step A r o e) → ⊥
write_step A x r s v None (Did t q act) is h = absurd h
write_step A x r s v (Some n) (Did t q act) is h =
    let c : Clears A r t act = write_row A x t r v q.client act is in
    subst (IsAmong s) (c.clears n) (subst (λ (m : Story). IsAmong s m.synced) (if_same t r (told_row A n act) n c.number) h)
write_step A x r s v o (Crashed left) is h = absurd (cc)
write_step A x r s v o (Attached t name info) is h = absurd (nothing_one _ is)
write_step A x r s v o (NoExport t name) is h = absurd (nothing_one _ is)
write_step A x r s v o (Crowded t name) is h = absurd (nothing_one _ is)
write_step A x r s v o (Left t e) is h = absurd (nothing_one _ is)
write_step A x r s v o (Detached t e) is h = absurd (nothing_one _ is)
write_step A x r s v o (NotAttached t e) is h = absurd (nothing_one _ is)
write_step A x r s v o (Asked t c) is h = absurd (nothing_one _ is)
write_step A x r s v o (Exported op e) is h = absurd (nothing_one _ is)
write_step A x r s v o (Planned j fail) is h = absurd (nothing_one _ is)

pub written_none : (A x r s v : ℕ) (front : List Element) (write : Element) → cell_at A x write ≡ Write r v ∷ [] → Had s (told A r (front ++ write ∷ [])) → ⊥
written_none A x r s v front write is h = write_step A x r s v (told A r front) write is (subst (Had s) (told_more A r None front write) h)

-- the story of a request that is answered Fine
pub record FineStory (A r : ℕ) (c : Client) (before : List Element) : Type 0 where
  pub story : Story
  pub is : told A r before ≡ Some story
  pub client : c ≡ sent story
  pub table : IsByTable A story Fine

one_story : (a b : Story) → Some a ≡ Some b → a ≡ b
one_story a b e = cc

pub fine_story : (A : ℕ) (w : World) (es before : List Element) (r : ℕ) (c : Client) (answer : Element) → 0 < A → Ok A w → ((k : ℕ) → w.req k ≡ None) → Runs A w es →
    ComesBehind before answer es → Answered r c Fine answer → FineStory A r c before
fine_story A w es before r c (Did s q act) pos ok none run at is =
    let may = (split_run A w es before (Did s q act) run at).1 in
    let t : Told A s before q = all_told A w es before pos ok none run (before_step before (Did s q act) es at) s q may.0 in
    let h : HasStory A s before (λ n. IsByTable A n Fine) = verdicts A w es pos ok none run s Fine before (Did s q act) at (refl, is.2) in
    subst (λ (k : ℕ). FineStory A k c before) is.0 (record {
      story = h.0;
      is = h.1.0;
      client = sym is.1 ∙ t.client ∙ ap sent (one_story t.story h.0 (sym t.is ∙ h.1.0));
      table = h.1.1;
    })
fine_story A w es before r c _ pos ok none run at is = absurd is

among_eight : (s : ℕ) → s < 8 → IsAmong s (0 ∷ 1 ∷ 2 ∷ 3 ∷ 4 ∷ 5 ∷ 6 ∷ 7 ∷ [])
among_eight zero h = inl refl
among_eight (suc zero) h = inr (inl refl)
among_eight (suc (suc zero)) h = inr (inr (inl refl))
among_eight (suc (suc (suc zero))) h = inr (inr (inr (inl refl)))
among_eight (suc (suc (suc (suc zero)))) h = inr (inr (inr (inr (inl refl))))
among_eight (suc (suc (suc (suc (suc zero))))) h = inr (inr (inr (inr (inr (inl refl)))))
among_eight (suc (suc (suc (suc (suc (suc zero)))))) h = inr (inr (inr (inr (inr (inr (inl refl))))))
among_eight (suc (suc (suc (suc (suc (suc (suc zero))))))) h = inr (inr (inr (inr (inr (inr (inr (inl refl)))))))
among_eight (suc (suc (suc (suc (suc (suc (suc (suc s)))))))) h = absurd (omega arith)

-- a FLUSH that is Fine has every stripe in its story
pub flush_had : (A r s : ℕ) (c : Client) (before : List Element) → s < 8 → c.ask.kind ≡ Flush → FineStory A r c before → Had s (told A r before)
flush_had A r s c before small flush f =
    let kind : f.story.client.ask.kind ≡ Flush = ap (λ (d : Client). d.ask.kind) (sym f.client) ∙ flush in
    subst (Had s) (sym f.is) (subst (IsAmong s) (sym (f.table.flushed kind refl)) (among_eight s small))

-- and a forced write those of the blocks that it covers
pub forced_had : (A x r : ℕ) (c : Client) (before : List Element) → 0 < A → is_forced c.ask ≡ true → covers c x ≡ true → FineStory A r c before →
    Had (stripe_of (x / A)) (told A r before)
forced_had A x r c before pos forced covered f =
    let asked : is_forced f.story.client.ask ≡ true = ap (λ (d : Client). is_forced d.ask) (sym f.client) ∙ forced in
    let stripes : AreStripes A (sent f.story) f.story.synced = f.table.forced asked refl in
    let reach : Reaches A (sent f.story) (x / A) =
    covered_reached A (sent f.story) (x / A) x pos (ap (λ (d : Client). covers d x) (sym f.client) ∙ covered) (block_low x A pos) (block_high x A pos) in
    subst (Had (stripe_of (x / A))) (sym f.is) ((stripes.each (stripe_of (x / A))).1 (x / A, reach.first, reach.last, refl))
