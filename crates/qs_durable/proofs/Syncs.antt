-- Nothing is older than a sync of its stripe.
use Rattle.std.proofs.Common.{◌≡◌, ℕ, ◌/◌, ◌%◌, ◌<◌, inl, inr, Bool, true, cond, List, [], ◌∷◌, ◌++◌, get_or, IsTrue, refl, sym, ap, ◌∙◌, subst, append-nil, append_assoc, eq-eqb}
use Rattle.std.specs.List.{Contains}
use Rattle.qs_bytes.specs.Geometry.{stripe_of}
use Rattle.qs_model.specs.Requests.{Client, Stage}
use Rattle.qs_model.specs.Worlds.{Opening, World, byte_at}
use Rattle.qs_model.specs.Acts.{Act, Syncs, Cleans, Element, Did}
use Rattle.qs_model.specs.Guards.{MayDo, CanCome}
use Rattle.qs_model.specs.Steps.{world_after, happens, imaged, Runs}
use Rattle.qs_model.specs.Laws.{Begins, ComesBehind, opening_world}
use Rattle.qs_model.proofs.Cells.{told_run}
use Rattle.qs_model.proofs.Facts.{Ok}
use Rattle.qs_model.proofs.Kept.{after_append, front_run, new_ok, run_ok, runs_back, split_run, step_ok}
use Rattle.qs_durable.specs.Ages.{LeavesNoOlder, MayBeLeft}
use Rattle.qs_durable.specs.Bounds.{IsSynced, IsSyncedRow}
use Rattle.qs_durable.specs.Laws.{SinceOpening, SyncsBound}
use Rattle.qs_durable.proofs.Positions.{begins_itself, begins_longer, begins_on, behind_longer, no_older_than_before, still_no_older, with_step}
use Rattle.qs_durable.proofs.Rows.{IsAlone, KeepsAlone, only_member, step_alone, step_comes}

pub run_alone : (A : ℕ) (w : World) (es : List Element) → KeepsAlone w.image → KeepsAlone (world_after A w es).image
run_alone A w [] alone = alone
run_alone A w (e ∷ es) alone = run_alone A (happens A w e) es (step_alone A w e alone)

-- behind a sync, also one that was skipped, a crash leaves of the stripe's blocks what they hold
pub synced_alone : (A : ℕ) (w : World) (e : Element) (b : ℕ) → CanCome A w e → KeepsAlone w.image → IsSynced (stripe_of b) e → IsAlone (happens A w e).image b
synced_alone A w (Did r q act) b may alone is = go q.client act may.1 is
  where
    go : (c : Client) {stage : Stage} (act : Act stage) → MayDo A w c q.pads act → IsSyncedRow (stripe_of b) act → IsAlone (imaged A w.image c act) b
    go c (Syncs {s = s}) can is = ap (λ (t : Bool). cond t (w.image.now b ∷ []) (w.image.past b)) (eq-eqb (stripe_of b) s (sym is))
    go c (Cleans {s = s}) can is = alone b (subst (λ (t : ℕ). w.image.clean t ≡ true) is can)
    go c _ can is = absurd is
synced_alone A w _ b may alone is = absurd is

-- where a crash leaves what a byte's block holds, that is no older than this position
pub alone_no_older : (A : ℕ) (w : World) (x : ℕ) (steps : List Element) → IsAlone (world_after A w steps).image (x / A) → LeavesNoOlder A w x steps steps
alone_no_older A w x steps alone v h =
    let only : h.content ≡ (world_after A w steps).image.now (x / A) =
    only_member _ h.content (subst (λ (l : List (List ℕ)). Contains l h.content) alone h.left) in
    inl (record {
      position = steps;
      later = begins_itself steps;
      before = begins_itself steps;
      value = ap (λ (l : List ℕ). get_or l (x % A) 0) (sym only) ∙ h.byte;
    })

-- what a crash may leave stays no older than a position, step by step
step_no_older : (A : ℕ) (w : World) (x : ℕ) (since steps : List Element) (e : Element) → 0 < A → IsTrue (world_after A w steps).tells → Ok A (world_after A w steps) →
    CanCome A (world_after A w steps) e → Begins since steps → LeavesNoOlder A w x since steps → LeavesNoOlder A w x since (steps ++ e ∷ [])
step_no_older A w x since steps e pos told ok may on so_far v h =
    let next : world_after A w (steps ++ e ∷ []) ≡ happens A (world_after A w steps) e = after_append A w steps (e ∷ []) in
    elim (step_comes A x v (world_after A w steps) e pos told ok may (subst (λ (u : World). MayBeLeft A u.image x v) next h)) [
      | inl old ↦ still_no_older A w x v since steps (steps ++ e ∷ []) (begins_longer steps (e ∷ [])) (so_far v old)
      | inr (inl is) ↦ inl (record {
        position = steps ++ e ∷ [];
        later = begins_on since steps (steps ++ e ∷ []) on (begins_longer steps (e ∷ []));
        before = begins_itself (steps ++ e ∷ []);
        value = ap (λ (u : World). byte_at A u.image x) next ∙ is;
      })
      | inr (inr is) ↦ inr (record {
        position = steps;
        store = e;
        later = on;
        before = ([], refl);
        number = is.number;
        took = is.took;
        entry = is.entry;
      })
    ]

pub run_no_older : (A : ℕ) (w : World) (x : ℕ) (since steps more : List Element) → 0 < A → IsTrue (world_after A w steps).tells → Ok A (world_after A w steps) →
    Runs A (world_after A w steps) more → Begins since steps → LeavesNoOlder A w x since steps → LeavesNoOlder A w x since (steps ++ more)
run_no_older A w x since steps [] pos told ok run on so_far = subst (λ (l : List Element). LeavesNoOlder A w x since l) (sym (append-nil steps)) so_far
run_no_older A w x since steps (e ∷ more) pos told ok run on so_far =
    let next : world_after A w (steps ++ e ∷ []) ≡ happens A (world_after A w steps) e = after_append A w steps (e ∷ []) in
    let back : happens A (world_after A w steps) e ≡ world_after A w (steps ++ e ∷ []) = sym next in
    subst (λ (l : List Element). LeavesNoOlder A w x since l) (append_assoc steps (e ∷ []) more)
    (run_no_older A w x since (steps ++ e ∷ []) more pos
    (subst (λ (u : World). IsTrue u.tells) back (told_run A (world_after A w steps) (e ∷ []) told))
    (subst (λ (u : World). Ok A u) back (step_ok A (world_after A w steps) e pos ok run.0))
    (subst (λ (u : World). Runs A u more) back run.1)
    (begins_on since steps (steps ++ e ∷ []) on (begins_longer steps (e ∷ [])))
    (step_no_older A w x since steps e pos told ok run.0 on so_far))

-- from a position on
pub still_leaves : (A : ℕ) (w : World) (x : ℕ) (since steps more es : List Element) → 0 < A → IsTrue w.tells → Ok A w → Runs A w es → Begins more es →
    Begins since steps → Begins steps more → LeavesNoOlder A w x since steps → LeavesNoOlder A w x since more
still_leaves A w x since steps more es pos told ok run at on further so_far =
    let whole : Runs A w (steps ++ further.0) = subst (λ (l : List Element). Runs A w l) further.1 (front_run A w es more run at) in
    let front : Runs A w steps = front_run A w (steps ++ further.0) steps whole (begins_longer steps further.0) in
    subst (λ (l : List Element). LeavesNoOlder A w x since l) (sym further.1)
    (run_no_older A w x since steps further.0 pos (told_run A w steps told) (run_ok A w steps pos ok front) (runs_back A w steps further.0 whole) on so_far)

pub syncs : (A : ℕ) (w : World) (es : List Element) → 0 < A → IsTrue w.tells → Ok A w → KeepsAlone w.image → Runs A w es → SyncsBound A w es
syncs A w es pos told ok alone run x since steps at sync v h =
    let front : List Element = sync.position in
    let here : List Element = front ++ sync.sync ∷ [] in
    let in_steps : Begins here steps = with_step front sync.sync steps sync.before in
    let in_run : ComesBehind front sync.sync es = behind_longer front sync.sync steps es sync.before at in
    let may : CanCome A (world_after A w front) sync.sync = (split_run A w es front sync.sync run in_run).1 in
    let is : IsAlone (world_after A w here).image (x / A) =
    subst (λ (u : World). IsAlone u.image (x / A)) (sym (after_append A w front (sync.sync ∷ [])))
    (synced_alone A (world_after A w front) sync.sync (x / A) may (run_alone A w front alone) sync.synced) in
    no_older_than_before A w x v since here steps (begins_on since front here sync.later (begins_longer front (sync.sync ∷ [])))
    (still_leaves A w x here here steps es pos told ok run at (begins_itself here) in_steps (alone_no_older A w x here is) v h)

pub since_opening : (A : ℕ) (o : Opening) (es : List Element) → 0 < A → IsTrue o.tells → ((b : ℕ) → o.past b ≡ o.now b ∷ []) → Runs A (opening_world o) es →
    SinceOpening A (opening_world o) es
since_opening A o es pos told single run x steps at =
    still_leaves A (opening_world o) x [] [] steps es pos told (new_ok A 0 o) run at ([], refl) (steps, refl) (alone_no_older A (opening_world o) x [] (single (x / A)))
