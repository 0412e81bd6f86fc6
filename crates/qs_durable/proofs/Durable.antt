-- Nothing is older than an acknowledged flush.
use Rattle.std.proofs.Common.{◌≡◌, ℕ, ◌/◌, ◌<◌, Bool, ◌==◌, List, [], ◌∷◌, ◌++◌, Option, Some, None, IsTrue, refl, sym, ap, ◌∙◌, subst, append_assoc, true≢false, arith}
use Rattle.qs_bytes.specs.Geometry.{stripe_of}
use Rattle.qs_bytes.specs.declared.ask.Kind.{Kind}
use Rattle.qs_bytes.specs.declared.ask.Kind.TheVariants.{Flush}
use Rattle.qs_bytes.specs.declared.ask.Verdict.TheVariants.{Fine}
use Rattle.qs_model.specs.Requests.{Client, Pads, Req, Stage, abandon, stores_bytes}
use Rattle.qs_model.specs.Worlds.{Image, Opening, World}
use Rattle.qs_model.specs.Acts.{Act, Answers, Waits, Enters, Routes, Shuts, Lists, Starts, Loads, LoadFails, Holds, HoldFails, Stores, StoreFails, Syncs, Cleans, SyncFails, Frees, Ends, Element, Did, Crashed}
use Rattle.qs_model.specs.Guards.{CanCome}
use Rattle.qs_model.specs.Steps.{world_after, happens, imaged, leaves, moved, Runs}
use Rattle.qs_model.specs.Histories.{Acts, Answered}
use Rattle.qs_model.specs.Laws.{Begins, ComesBehind, opening_world}
use Rattle.qs_model.proofs.Along.{Lasts, lasts_run, lasts_step}
use Rattle.qs_model.proofs.Basics.{choose}
use Rattle.qs_model.proofs.Cells.{told_run}
use Rattle.qs_model.proofs.Between.{acts_at}
use Rattle.qs_model.proofs.Facts.{Ok, Shaped}
use Rattle.qs_model.proofs.Holders.{some_none}
use Rattle.qs_model.proofs.Kept.{after_append, new_ok, run_ok, runs_back, runs_front, split_run, step_ok}
use Rattle.qs_verdicts.specs.Stories.{told}
use Rattle.qs_durable.specs.Ages.{LeavesNoOlder}
use Rattle.qs_durable.specs.Bounds.{AreOwn, Forced, IsBound, ReachedFlush, SyncedSince, Flushed, FlushedAlone, WrittenBefore, WrittenThrough}
use Rattle.qs_durable.specs.Laws.{Durable, IsHandedInSettled}
use Rattle.qs_durable.proofs.Positions.{before_step, begins_itself, begins_longer, begins_on, behind_longer, no_older_than_before}
use Rattle.qs_durable.proofs.Rows.{IsAlone, KeepsAlone}
use Rattle.qs_durable.proofs.Stories.{Had, entered_none, fine_story, flush_had, forced_had, synced_between, written_none}
use Rattle.qs_durable.proofs.Syncs.{alone_no_older, run_alone, still_leaves, synced_alone, syncs}

-- the final step of some steps of a run
final_step : (front : List Element) (e : Element) (steps es : List Element) → steps ≡ front ++ e ∷ [] → Begins steps es → ComesBehind front e es
final_step front e steps es is at = (at.0, at.1 ∙ ap (λ (l : List Element). l ++ at.0) is ∙ append_assoc front (e ∷ []) at.0)

-- a sync between two positions
moved_on : (s : ℕ) (front between : List Element) → SyncedSince s [] between → SyncedSince s front (front ++ between)
moved_on s front between h = record {
  position = front ++ h.position;
  sync = h.sync;
  later = (h.position, refl);
  before = (h.before.0, ap (λ (l : List Element). front ++ l) h.before.1 ∙ sym (append_assoc front h.position (h.sync ∷ h.before.0)));
  synced = h.synced;
}

longer_sync : (s : ℕ) (since steps more : List Element) → Begins steps more → SyncedSince s since steps → SyncedSince s since more
longer_sync s since steps more on h = record {
  position = h.position;
  sync = h.sync;
  later = h.later;
  before = behind_longer h.position h.sync steps more h.before on;
  synced = h.synced;
}

-- a run that is given as a whole
pub record Given (A : ℕ) (w : World) (es : List Element) : Type 0 where
  pub pos : 0 < A
  pub told : IsTrue w.tells
  pub ok : Ok A w
  pub none : (r : ℕ) → w.req r ≡ None
  pub alone : KeepsAlone w.image
  pub run : Runs A w es

-- where a FLUSH that was reached entered, and where it was answered
flush_course : (entered answered : List Element) (f : ReachedFlush entered answered) → answered ≡ ((entered ++ f.enter ∷ []) ++ f.between) ++ f.answer ∷ []
flush_course entered answered f =
    f.course ∙ sym (append_assoc entered (f.enter ∷ []) (f.between ++ f.answer ∷ [])) ∙ sym (append_assoc (entered ++ f.enter ∷ []) f.between (f.answer ∷ []))

-- between these a FLUSH syncs each stripe that it hadn't synced before
flush_syncs : (A : ℕ) (w : World) (es front between : List Element) (answer : Element) (r : ℕ) (c : Client) (s : ℕ) → Given A w es → c.ask.kind ≡ Flush →
    Answered r c Fine answer → ComesBehind (front ++ between) answer es → (Had s (told A r front) → ⊥) → s < 8 → SyncedSince s [] between
flush_syncs A w es front between answer r c s g flush fine at none small =
    synced_between A r s front between none
    (flush_had A r s c (front ++ between) small flush (fine_story A w es (front ++ between) r c answer g.pos g.ok g.none g.run at fine))

-- a FLUSH that was reached synced nothing before it entered, and is answered behind its own steps
reached_none : (A : ℕ) (w : World) (es entered answered : List Element) (s : ℕ) → Given A w es → (f : ReachedFlush entered answered) → Begins answered es →
    Had s (told A f.number (entered ++ f.enter ∷ [])) → ⊥
reached_none A w es entered answered s g f at =
    let enter : ComesBehind entered f.enter es = (
      f.between ++ f.answer ∷ at.0,
      at.1 ∙ ap (λ (l : List Element). l ++ at.0) f.course ∙ append_assoc entered (f.enter ∷ (f.between ++ f.answer ∷ [])) at.0
          ∙ ap (λ (l : List Element). entered ++ f.enter ∷ l) (append_assoc f.between (f.answer ∷ []) at.0),
    ) in
    entered_none A w es entered f.number s f.enter g.pos g.ok g.none g.run enter f.enters

reached_answer : (entered answered es : List Element) (f : ReachedFlush entered answered) → Begins answered es →
    ComesBehind ((entered ++ f.enter ∷ []) ++ f.between) f.answer es
reached_answer entered answered es f at = final_step ((entered ++ f.enter ∷ []) ++ f.between) f.answer answered es (flush_course entered answered f) at

stripe_small : (b : ℕ) → stripe_of b < 8
stripe_small b = omega arith

-- nothing is older than a FLUSH that was reached
flush_bounds : (A : ℕ) (w : World) (es : List Element) (x : ℕ) (entered answered steps : List Element) → Given A w es → Begins steps es → Begins answered steps →
    ReachedFlush entered answered → LeavesNoOlder A w x entered steps
flush_bounds A w es x entered answered steps g at reached f v h =
    let front : List Element = entered ++ f.enter ∷ [] in
    let s : ℕ = stripe_of (x / A) in
    let on : Begins answered es = begins_on answered steps es reached at in
    let between : SyncedSince s [] f.between =
    flush_syncs A w es front f.between f.answer f.number f.client s g f.flush f.fine (reached_answer entered answered es f on)
    (reached_none A w es entered answered s g f on) (stripe_small (x / A)) in
    let before : Begins (front ++ f.between) steps =
    before_step (front ++ f.between) f.answer steps (final_step (front ++ f.between) f.answer answered steps (flush_course entered answered f) reached) in
    no_older_than_before A w x v entered front steps (begins_longer entered (f.enter ∷ []))
    (syncs A w es g.pos g.told g.ok g.alone g.run x front steps at (longer_sync s front (front ++ f.between) steps before (moved_on s front f.between between)) v h)

-- nothing is older than a byte's write by a request with FUA that is Fine
forced_bounds : (A : ℕ) (w : World) (es : List Element) (x : ℕ) (written answered steps : List Element) → Given A w es → Begins steps es → Begins answered steps →
    Forced A x written answered → LeavesNoOlder A w x written steps
forced_bounds A w es x written answered steps g at reached f v h =
    let s : ℕ = stripe_of (x / A) in
    let whole : answered ≡ (written ++ f.between) ++ f.answer ∷ [] = f.course ∙ sym (append_assoc written f.between (f.answer ∷ [])) in
    let answer : ComesBehind (written ++ f.between) f.answer es = final_step (written ++ f.between) f.answer answered es whole (begins_on answered steps es reached at) in
    let none : Had s (told A f.number written) → ⊥ =
    subst (λ (l : List Element). Had s (told A f.number l) → ⊥) (sym f.wrote.course) (written_none A x f.number s f.wrote.value f.wrote.front f.wrote.write f.wrote.entry) in
    let between : SyncedSince s [] f.between = synced_between A f.number s written f.between none
    (forced_had A x f.number f.client (written ++ f.between) g.pos f.forced f.covered
    (fine_story A w es (written ++ f.between) f.number f.client f.answer g.pos g.ok g.none g.run answer f.fine)) in
    let before : Begins (written ++ f.between) steps =
    before_step (written ++ f.between) f.answer steps (final_step (written ++ f.between) f.answer answered steps whole reached) in
    syncs A w es g.pos g.told g.ok g.alone g.run x written steps at (longer_sync s written (written ++ f.between) steps before (moved_on s written f.between between)) v h

-- a request keeps its kind
abbrev pub HasKind : Kind → Option Req → Type 0
HasKind k None = Unit {0}
HasKind k (Some q) = q.client.ask.kind ≡ k

kind_moves : (A : ℕ) (k : Kind) (c : Client) (d : Bool) (p : Pads) {stage : Stage} (act : Act stage) → c.ask.kind ≡ k → HasKind k (moved A c d p act)
kind_moves A k c d p Answers h = tt
kind_moves A k c d p (Waits wait) h = h
kind_moves A k c d p (Enters j) h = h
kind_moves A k c d p (Routes route) h = h
kind_moves A k c d p Shuts h = h
kind_moves A k c d p (Lists n) h = h
kind_moves A k c d p Starts h = h
kind_moves A k c d p (Loads bytes) h = h
kind_moves A k c d p LoadFails h = h
kind_moves A k c d p (Holds bytes) h = h
kind_moves A k c d p HoldFails h = h
kind_moves A k c d p (Stores bytes past) h = h
kind_moves A k c d p (StoreFails bytes took past) h = h
kind_moves A k c d p Syncs h = h
kind_moves A k c d p Cleans h = h
kind_moves A k c d p SyncFails h = h
kind_moves A k c d p Frees h = h
kind_moves A k c d p Ends h = tt

kind_left : (k : Kind) (s : ℕ) (o : Option Req) → HasKind k o → HasKind k (leaves s o)
kind_left k s None h = tt
kind_left k s (Some q) h = choose (λ x. x.client.ask.kind ≡ k) (q.client.session == s) (abandon q) q (λ e. h) (λ e. h)

pub kind_lasts : (A : ℕ) (k : Kind) → Lasts A (HasKind k)
kind_lasts A k = record { own = λ c d p act h. kind_moves A k c d p act h; left = kind_left k; gone = tt }

-- a FLUSH stores nothing, and so leaves alone what is alone
flush_row : (A : ℕ) (i : Image) (b : ℕ) (c : Client) {stage : Stage} (act : Act stage) → Shaped A c stage → c.ask.kind ≡ Flush → IsAlone i b → IsAlone (imaged A i c act) b
flush_row A i b c (Stores bytes past) fit flush alone = absurd (true≢false (sym fit.writing ∙ ap stores_bytes flush))
flush_row A i b c (StoreFails bytes took past) fit flush alone = absurd (true≢false (sym fit.writing ∙ ap stores_bytes flush))
flush_row A i b c (Syncs {s = s}) fit flush alone = choose (λ l. l ≡ i.now b ∷ []) (stripe_of b == s) _ _ (λ e. refl) (λ e. alone)
flush_row A i b c _ fit flush alone = alone

flush_step : (A : ℕ) (w : World) (r b : ℕ) (e : Element) → Ok A w → CanCome A w e → Acts r e → HasKind Flush (w.req r) → IsAlone w.image b → IsAlone (happens A w e).image b
flush_step A w r b (Did s q act) ok may own kind alone =
    flush_row A w.image b q.client act (ok.well s q may.0).shaped (subst (HasKind Flush) (ap w.req (sym own) ∙ may.0) kind) alone
flush_step A w r b _ ok may own kind alone = absurd own

made_before : (A : ℕ) (w : World) (r : ℕ) (e : Element) → Ok A w → CanCome A w e → Acts r e → r < w.next
made_before A w r (Did s q act) ok may own = subst (λ (k : ℕ). k < w.next) own (ok.below s q may.0)
made_before A w r _ ok may own = absurd own

flush_run : (A : ℕ) (w : World) (r b : ℕ) (es : List Element) → 0 < A → Ok A w → Runs A w es → AreOwn r es → HasKind Flush (w.req r) → IsAlone w.image b →
    IsAlone (world_after A w es).image b
flush_run A w r b [] pos ok run own kind alone = alone
flush_run A w r b (e ∷ es) pos ok run own kind alone =
    flush_run A (happens A w e) r b es pos (step_ok A w e pos ok run.0) run.1 own.1
    (lasts_step A (HasKind Flush) (kind_lasts A Flush) w e r run.0 (made_before A w r e ok run.0 own.0) kind)
    (flush_step A w r b e ok run.0 own.0 kind alone)

own_back : (r : ℕ) (xs ys : List Element) → AreOwn r (xs ++ ys) → AreOwn r ys
own_back r [] ys own = own
own_back r (e ∷ xs) ys own = own_back r xs ys own.1

-- a request that answers is there, and so it was where it did a step before
answer_there : (A : ℕ) (w : World) (r : ℕ) (c : Client) (answer : Element) → CanCome A w answer → Answered r c Fine answer → HasKind c.ask.kind (w.req r)
answer_there A w r c (Did s q act) may is = subst (HasKind c.ask.kind) (sym may.0 ∙ ap w.req is.0) (ap (λ (d : Client). d.ask.kind) is.1)
answer_there A w r c _ may is = absurd is

answer_acts : (r : ℕ) (c : Client) (answer : Element) → Answered r c Fine answer → Acts r answer
answer_acts r c (Did s q act) is = is.0
answer_acts r c _ is = absurd is

same_kind : (j k : Kind) (o : Option Req) (q : Req) → o ≡ Some q → HasKind j o → HasKind k o → j ≡ k
same_kind j k None q is here there = absurd (some_none (sym is))
same_kind j k (Some p) q is here there = sym here ∙ there

-- A request does a step, then others, and then answers: it had its kind all along.
kind_before : (A : ℕ) (w : World) (r : ℕ) (c : Client) (e : Element) (more : List Element) (answer : Element) → Ok A w → Runs A w (e ∷ more) → Acts r e →
    CanCome A (world_after A w (e ∷ more)) answer → Answered r c Fine answer → HasKind c.ask.kind (w.req r)
kind_before A w r c e more answer ok run own may is =
    let (q, there) = acts_at A w r e run.0 own in
    let k : Kind = q.client.ask.kind in
    let (p, still) = acts_at A (world_after A w (e ∷ more)) r answer may (answer_acts r c answer is) in
    let lasted : HasKind k ((world_after A w (e ∷ more)).req r) =
    lasts_run A (HasKind k) (kind_lasts A k) w (e ∷ more) r run (made_before A w r e ok run.0 own) (subst (HasKind k) (sym there) refl) in
    let same : k ≡ c.ask.kind = same_kind k c.ask.kind _ p still lasted (answer_there A (world_after A w (e ∷ more)) r c answer may is) in
    subst (HasKind c.ask.kind) (sym there) same

-- where a FLUSH ran alone, a crash leaves at its answer what each block holds
pub flush_alone : (A : ℕ) (w : World) (es front between : List Element) (answer : Element) (r : ℕ) (c : Client) (b : ℕ) → Given A w es → c.ask.kind ≡ Flush →
    Answered r c Fine answer → ComesBehind (front ++ between) answer es → ((s : ℕ) → Had s (told A r front) → ⊥) → AreOwn r between →
    IsAlone (happens A (world_after A w (front ++ between)) answer).image b
flush_alone A w es front between answer r c b g flush fine at none own =
    let sync : SyncedSince (stripe_of b) [] between =
    flush_syncs A w es front between answer r c (stripe_of b) g flush fine at (none (stripe_of b)) (stripe_small b) in
    let more : List Element = sync.before.0 in
    let position : List Element = front ++ sync.position in
    let parts : front ++ between ≡ position ++ sync.sync ∷ more =
    ap (λ (l : List Element). front ++ l) sync.before.1 ∙ sym (append_assoc front sync.position (sync.sync ∷ more)) in
    let (whole, may) = split_run A w es (front ++ between) answer g.run at in
    let halves : Runs A w (position ++ sync.sync ∷ more) = subst (λ (l : List Element). Runs A w l) parts whole in
    let u : World = world_after A w position in
    let run : Runs A u (sync.sync ∷ more) = runs_back A w position (sync.sync ∷ more) halves in
    let ok : Ok A u = run_ok A w position g.pos g.ok (runs_front A w position (sync.sync ∷ more) halves) in
    let steps : AreOwn r (sync.sync ∷ more) = own_back r sync.position (sync.sync ∷ more) (subst (AreOwn r) sync.before.1 own) in
    let meet : world_after A w (front ++ between) ≡ world_after A u (sync.sync ∷ more) = ap (world_after A w) parts ∙ after_append A w position (sync.sync ∷ more) in
    let ends : CanCome A (world_after A u (sync.sync ∷ more)) answer = subst (λ (v : World). CanCome A v answer) meet may in
    let kind : HasKind Flush (u.req r) =
    subst (λ (k : Kind). HasKind k (u.req r)) flush (kind_before A u r c sync.sync more answer ok run steps.0 ends fine) in
    let settled : IsAlone (happens A u sync.sync).image b = synced_alone A u sync.sync b run.0 (run_alone A w position g.alone) sync.synced in
    let still : IsAlone (world_after A u (sync.sync ∷ more)).image b =
    flush_run A (happens A u sync.sync) r b more g.pos (step_ok A u sync.sync g.pos ok run.0) run.1 steps.1
    (lasts_step A (HasKind Flush) (kind_lasts A Flush) u sync.sync r run.0 (made_before A u r sync.sync ok run.0 steps.0) kind) settled in
    let answered_so : IsAlone (happens A (world_after A u (sync.sync ∷ more)) answer).image b =
    flush_step A (world_after A u (sync.sync ∷ more)) r b answer (run_ok A u (sync.sync ∷ more) g.pos ok run) ends (answer_acts r c answer fine)
    (subst (λ (k : Kind). HasKind k ((world_after A u (sync.sync ∷ more)).req r)) flush (answer_there A (world_after A u (sync.sync ∷ more)) r c answer ends fine)) still in
    subst (λ (v : World). IsAlone (happens A v answer).image b) (sym meet) answered_so

reached_alone : (A : ℕ) (w : World) (es entered answered : List Element) (b : ℕ) → Given A w es → (f : ReachedFlush entered answered) → AreOwn f.number f.between →
    Begins answered es → IsAlone (world_after A w answered).image b
reached_alone A w es entered answered b g f own at =
    let front : List Element = entered ++ f.enter ∷ [] in
    subst (λ (v : World). IsAlone v.image b)
    (sym (ap (world_after A w) (flush_course entered answered f) ∙ after_append A w (front ++ f.between) (f.answer ∷ [])))
    (flush_alone A w es front f.between f.answer f.number f.client b g f.flush f.fine (reached_answer entered answered es f at)
    (λ s. reached_none A w es entered answered s g f at) own)

alone_bounds : (A : ℕ) (w : World) (es : List Element) (x : ℕ) (entered answered steps : List Element) → Given A w es → Begins steps es → Begins answered steps →
    (f : ReachedFlush entered answered) → AreOwn f.number f.between → LeavesNoOlder A w x answered steps
alone_bounds A w es x entered answered steps g at reached f own =
    still_leaves A w x answered answered steps es g.pos g.told g.ok g.run at (begins_itself answered) reached
    (alone_no_older A w x answered (reached_alone A w es entered answered (x / A) g f own (begins_on answered steps es reached at)))

left_bounds : (A : ℕ) (w : World) (es : List Element) (x : ℕ) (position answered steps : List Element) → Given A w es → Begins steps es → Begins answered steps →
    IsBound A x position answered → LeavesNoOlder A w x position steps
left_bounds A w es x position answered steps g at reached (Flushed f) = flush_bounds A w es x position answered steps g at reached f
left_bounds A w es x position answered steps g at reached (WrittenBefore {entered = entered} a f) = λ v h.
    no_older_than_before A w x v position entered steps a.before (flush_bounds A w es x entered answered steps g at reached f v h)
left_bounds A w es x position answered steps g at reached (WrittenThrough f) = forced_bounds A w es x position answered steps g at reached f
left_bounds A w es x position answered steps g at reached (FlushedAlone {entered = entered} f own) = alone_bounds A w es x entered answered steps g at reached f own

pub durable : (A : ℕ) (o : Opening) (es : List Element) → 0 < A → IsTrue o.tells → IsHandedInSettled o → Runs A (opening_world o) es → Durable A (opening_world o) es
durable A o es pos told settled run = record {
  left = λ x position answered steps at reached bound. left_bounds A (opening_world o) es x position answered steps given at reached bound;
  crashed = λ x position answered before left at reached bound.
      let may : CanCome A (world_after A (opening_world o) before) (Crashed left) = (split_run A (opening_world o) es before (Crashed left) run at).1 in
      left_bounds A (opening_world o) es x position answered before given (before_step before (Crashed left) es at) reached bound _
      (record { content = left (x / A); left = may (x / A) (told_run A (opening_world o) before told); byte = refl });
}
  where
    given : Given A (opening_world o) es
    given = record { pos = pos; told = told; ok = new_ok A 0 o; none = λ r. refl; alone = settled; run = run }
