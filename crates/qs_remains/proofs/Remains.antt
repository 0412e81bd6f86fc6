-- What a crash may leave behind a request alone.
use Rattle.std.proofs.Common.{◌≡◌, ℕ, ◌/◌, ◌%◌, ◌<◌, ◌⊎◌, inl, inr, Bool, true, false, ◌==◌, cond, List, [], ◌∷◌, ◌++◌, get_or, Some, None, IsTrue, refl, sym, ap, ◌∙◌, subst, arith}
use Rattle.qs_bytes.specs.declared.ask.Kind.TheVariants.{Flush}
use Rattle.qs_bytes.specs.declared.ask.Verdict.{Verdict}
use Rattle.qs_bytes.specs.declared.ask.Verdict.TheVariants.{Fine}
use Rattle.qs_cells.specs.declared.cell.CellEntry.{CellEntry}
use Rattle.qs_cells.specs.declared.cell.CellEntry.TheVariants.{Read, Write, Maybe}
use Rattle.qs_cells.specs.Cells.{value_after}
use Rattle.qs_model.specs.Requests.{Client, Stage, new_request, body_at, covers, no_route, writes}
use Rattle.qs_model.specs.Worlds.{Image, Opening, World, byte_at}
use Rattle.qs_model.specs.Acts.{Act, Loads, Stores, StoreFails, Element, Asked, Did}
use Rattle.qs_model.specs.Guards.{CanCome}
use Rattle.qs_model.specs.Histories.{Acts, Answered, cell_of, reads_in, writes_in}
use Rattle.qs_model.specs.Laws.{opening_world}
use Rattle.qs_model.specs.Steps.{Runs, world_after, happens}
use Rattle.qs_model.proofs.Along.{lasts_run}
use Rattle.qs_model.proofs.Basics.{either, put_here}
use Rattle.qs_model.proofs.Cells.{step_leads, three, told_run}
use Rattle.qs_model.proofs.Kept.{after_append, split_run}
use Rattle.qs_verdicts.specs.Stories.{begun, told}
use Rattle.qs_verdicts.specs.Verdicts.{IsAnswered}
use Rattle.qs_verdicts.proofs.Folds.{if_same}
use Rattle.qs_verdicts.proofs.Stories.{ask_step}
use Rattle.qs_durable.specs.Bounds.{AreOwn}
use Rattle.qs_durable.proofs.Durable.{HasKind, flush_alone, kind_lasts}
use Rattle.qs_durable.proofs.Rows.{IsRefusal, step_comes}
use Rattle.qs_durable.proofs.Stories.{Had}
use Rattle.qs_durable.proofs.Syncs.{run_alone}
use Rattle.qs_alone.specs.Alone.{AreOf, IsAlone, routed_in}
use Rattle.qs_alone.proofs.Frame.{own_front, own_run}
use Rattle.qs_alone.proofs.Follows.{Tracks, tracks_asked, tracks_step}
use Rattle.qs_alone.proofs.Stages.{Stands}
use Rattle.qs_remains.specs.Remains.{IsCleanSettled, IsSettled, IsStoredAt, Remains}

-- every byte is as it was, or what the request stores there
abbrev IsFrom : ℕ → Image → Client → Image → Type 0
IsFrom A old d new = (x : ℕ) → (byte_at A new x ≡ byte_at A old x) ⊎ IsStoredAt d x (byte_at A new x)

-- a write of x by the request with its way
stored_at : (A : ℕ) (w : World) (c d : Client) (b x : ℕ) → d ≡ routed_in w.graph c → writes_in A d b x ≡ true → IsStoredAt (routed_in w.graph c) x (body_at d x)
stored_at A w c d b x sent is =
    let (writing, covered, here) = three (writes d) (covers d x) (x / A == b) is in
    subst (λ (e : Client). IsStoredAt e x (body_at d x)) sent (record { stores = writing; covered = covered; byte = refl })

-- what a row makes of the byte at x: the same, or what the request stores there
row_byte : (A x r u : ℕ) (w : World) (c d : Client) (i : Image) {stage : Stage} (act : Act stage) → Stands A w c d i stage →
    (value_after u (cell_of A x r d act) ≡ u) ⊎ IsStoredAt (routed_in w.graph c) x (value_after u (cell_of A x r d act))
row_byte A x r u w c d i (Loads {b = b} bytes) at = elim (either (reads_in A d b x)) [
  | inl e ↦ inl (ap (λ (t : Bool). value_after u (cond t (Read r (get_or bytes (x % A) 0) ∷ []) [])) e)
  | inr e ↦ inl (ap (λ (t : Bool). value_after u (cond t (Read r (get_or bytes (x % A) 0) ∷ []) [])) e)
]
row_byte A x r u w c d i (Stores {b = b} bytes past) at = elim (either (writes_in A d b x)) [
  | inl e ↦
      inr (subst (IsStoredAt (routed_in w.graph c) x) (sym (ap (λ (t : Bool). value_after u (cond t (Write r (body_at d x) ∷ []) [])) e))
      (stored_at A w c d b x at.0 e))
  | inr e ↦ inl (ap (λ (t : Bool). value_after u (cond t (Write r (body_at d x) ∷ []) [])) e)
]
row_byte A x r u w c d i (StoreFails {k = k} {b = b} bytes took past) at = elim (either (writes_in A d b x)) [
  | inl e ↦ refused took (ap (λ (t : Bool). value_after u (cond t (Maybe r (body_at d x) took ∷ []) [])) e) e
  | inr e ↦ inl (ap (λ (t : Bool). value_after u (cond t (Maybe r (body_at d x) took ∷ []) [])) e)
]
  where
    refused : (t : Bool) → value_after u (cell_of A x r d (StoreFails {k = k} {b = b} bytes took past)) ≡ cond t (body_at d x) u → writes_in A d b x ≡ true →
        (value_after u (cell_of A x r d (StoreFails {k = k} {b = b} bytes took past)) ≡ u)
        ⊎ IsStoredAt (routed_in w.graph c) x (value_after u (cell_of A x r d (StoreFails {k = k} {b = b} bytes took past)))
    refused true is e = inr (subst (IsStoredAt (routed_in w.graph c) x) (sym is) (stored_at A w c d b x at.0 e))
    refused false is e = inl is
row_byte A x r u w c d i _ at = inl refl

-- a row whose entry of x is a refused store
not_none : (xs : List CellEntry) (r v : ℕ) (took : Bool) → xs ≡ [] → xs ≡ Maybe r v took ∷ [] → ⊥
not_none xs r v took none is = cc

not_read : (xs : List CellEntry) (s u r v : ℕ) (took : Bool) → xs ≡ Read s u ∷ [] → xs ≡ Maybe r v took ∷ [] → ⊥
not_read xs s u r v took read is = cc

not_write : (xs : List CellEntry) (s u r v : ℕ) (took : Bool) → xs ≡ Write s u ∷ [] → xs ≡ Maybe r v took ∷ [] → ⊥
not_write xs s u r v took write is = cc

same_maybe : (xs : List CellEntry) (s u r v : ℕ) (t took : Bool) → xs ≡ Maybe s u t ∷ [] → xs ≡ Maybe r v took ∷ [] → u ≡ v
same_maybe xs s u r v t took maybe is = cc

row_refusal : (A x r v : ℕ) (w : World) (c d : Client) (i : Image) {stage : Stage} (act : Act stage) → Stands A w c d i stage → IsRefusal A x v (cell_of A x r d act) →
    IsStoredAt (routed_in w.graph c) x v
row_refusal A x r v w c d i (StoreFails {b = b} bytes took past) at h = elim (either (writes_in A d b x)) [
  | inl e ↦
      subst (IsStoredAt (routed_in w.graph c) x)
      (same_maybe _ r (body_at d x) h.number v took h.took (ap (λ (t : Bool). cond t (Maybe r (body_at d x) took ∷ []) []) e) h.entry)
      (stored_at A w c d b x at.0 e)
  | inr e ↦ absurd (not_none _ h.number v h.took (ap (λ (t : Bool). cond t (Maybe r (body_at d x) took ∷ []) []) e) h.entry)
]
row_refusal A x r v w c d i (Loads {b = b} bytes) at h = elim (either (reads_in A d b x)) [
  | inl e ↦ absurd (not_read _ r _ h.number v h.took (ap (λ (t : Bool). cond t (Read r (get_or bytes (x % A) 0) ∷ []) []) e) h.entry)
  | inr e ↦ absurd (not_none _ h.number v h.took (ap (λ (t : Bool). cond t (Read r (get_or bytes (x % A) 0) ∷ []) []) e) h.entry)
]
row_refusal A x r v w c d i (Stores {b = b} bytes past) at h = elim (either (writes_in A d b x)) [
  | inl e ↦ absurd (not_write _ r _ h.number v h.took (ap (λ (t : Bool). cond t (Write r (body_at d x) ∷ []) []) e) h.entry)
  | inr e ↦ absurd (not_none _ h.number v h.took (ap (λ (t : Bool). cond t (Write r (body_at d x) ∷ []) []) e) h.entry)
]
row_refusal A x r v w c d i _ at h = absurd (not_none _ h.number v h.took refl h.entry)

-- the image behind some steps of the request, from the one where it was asked
record Reached (A : ℕ) (w : World) (c : Client) (i : Image) : Type 0 where
  from : IsFrom A w.image (routed_in w.graph c) i
  remains : Remains A w.image (routed_in w.graph c) i

step_reached : (A : ℕ) (w : World) (r : ℕ) (c : Client) (steps : List Element) (x : World) (e : Element) → 0 < A → IsTrue w.tells → CanCome A x e → Acts r e →
    Tracks A w r c steps x → Reached A w c x.image → Reached A w c (happens A x e).image
step_reached A w r c steps x (Did s q act) pos told may own t so =
    let d : Client = routed_in w.graph c in
    let there : x.req r ≡ Some q = subst (λ (k : ℕ). x.req k ≡ Some q) own may.0 in
    let at : Stands A w c q.client x.image q.stage = (t.stands q there).1 in
    let tells : IsTrue x.tells = subst IsTrue (sym t.frame.tells) told in
    let new : Image = (happens A x (Did s q act)).image in
    let from : IsFrom A w.image d new = λ y.
    let leads : byte_at A new y ≡ value_after (byte_at A x.image y) (cell_of A y s q.client act) =
    (step_leads A y x (Did s q act) pos tells t.ok may).leaves in
    elim (row_byte A y s (byte_at A x.image y) w c q.client x.image act at) [
      | inl same ↦ elim (so.from y) [
        | inl old ↦ inl (leads ∙ same ∙ old)
        | inr stored ↦ inr (subst (IsStoredAt d y) (sym (leads ∙ same)) stored)
      ]
      | inr stored ↦ inr (subst (IsStoredAt d y) (sym leads) stored)
    ] in
    record {
      from = from;
      remains = λ y v h. elim (step_comes A y v x (Did s q act) pos tells t.ok may h) [
        | inl old ↦ so.remains y v old
        | inr other ↦ elim other [
          | inl is ↦ elim (from y) [
            | inl old ↦ inr (inl (sym old ∙ is))
            | inr stored ↦ inr (inr (subst (IsStoredAt d y) is stored))
          ]
          | inr refusal ↦ inr (inr (row_refusal A y s v w c q.client x.image act at refusal))
        ]
      ];
    }
step_reached A w r c steps x _ pos told may own t so = absurd own

run_reached : (A : ℕ) (w : World) (r : ℕ) (c : Client) (steps : List Element) (x : World) (es : List Element) → 0 < A → IsTrue w.tells → c.route ≡ no_route → Runs A x es →
    AreOf r es → Tracks A w r c steps x → Reached A w c x.image → Reached A w c (world_after A x es).image
run_reached A w r c steps x [] pos told unrouted run own t so = so
run_reached A w r c steps x (e ∷ es) pos told unrouted run own t so =
    run_reached A w r c (steps ++ e ∷ []) (happens A x e) es pos told unrouted run.1 own.1 (tracks_step A w r c steps x e pos unrouted run.0 own.0 t)
    (step_reached A w r c steps x e pos told run.0 own.0 t so)

pub remains : (A : ℕ) (o : Opening) (before : List Element) (r : ℕ) (c : Client) (front : List Element) (e : Element) (v : Verdict) → 0 < A → IsTrue (world_after A (opening_world o) before).tells →
    IsAlone A o before r c (front ++ e ∷ []) → IsAnswered r v e →
    Remains A (world_after A (opening_world o) before).image (routed_in (world_after A (opening_world o) before).graph c) (world_after A (opening_world o) (before ++ Asked r c ∷ (front ++ e ∷ []))).image
remains A o before r c front e v pos told alone is =
    let w : World = world_after A (opening_world o) before in
    let (ok, run) = own_run A o before r c (front ++ e ∷ []) pos alone in
    let reached : Reached A w c (world_after A (happens A w (Asked r c)) (front ++ e ∷ [])).image =
    run_reached A w r c [] (happens A w (Asked r c)) (front ++ e ∷ []) pos told run.0.unrouted run.1 alone.own
    (tracks_asked A w r c pos ok alone.idle run.0) (record { from = λ y. inl refl; remains = λ y u h. inl h }) in
    subst (λ (x : World). Remains A w.image (routed_in w.graph c) x.image) (sym (after_append A (opening_world o) before (Asked r c ∷ (front ++ e ∷ [])))) reached.remains

-- the same steps, by the definition of the crash law
own_of : (r : ℕ) (es : List Element) → AreOf r es → AreOwn r es
own_of r [] own = tt
own_of r (e ∷ es) own = (own.0, own_of r es own.1)

-- an Ask has synced nothing
asked_none : (A r s : ℕ) (c : Client) → Had s (told A r (Asked r c ∷ [])) → ⊥
asked_none A r s c had = subst (Had s) (ask_step A r r c None ∙ if_same r r (Some (begun c)) None refl) had

-- the FLUSH that answers
answers_flush : (A : ℕ) (x : World) (r : ℕ) (c : Client) (e : Element) → CanCome A x e → IsAnswered r Fine e → HasKind c.ask.kind (x.req r) →
    (d : Client) × (Answered r d Fine e × (d.ask.kind ≡ c.ask.kind))
answers_flush A x r c (Did s q act) may is kind =
    (q.client, ((is.0, refl, is.1), subst (HasKind c.ask.kind) (ap x.req (sym is.0) ∙ may.0) kind))
answers_flush A x r c _ may is kind = absurd is

pub flushed : (A : ℕ) (o : Opening) (before : List Element) (r : ℕ) (c : Client) (front : List Element) (e : Element) → 0 < A → IsTrue (world_after A (opening_world o) before).tells →
    IsCleanSettled (world_after A (opening_world o) before).image → c.ask.kind ≡ Flush → IsAlone A o before r c (front ++ e ∷ []) → IsAnswered r Fine e →
    IsSettled (world_after A (opening_world o) (before ++ Asked r c ∷ (front ++ e ∷ []))).image
flushed A o before r c front e pos told clean flush alone is b =
    let w : World = world_after A (opening_world o) before in
    let (ok, run) = own_run A o before r c (front ++ e ∷ []) pos alone in
    let es : List Element = Asked r c ∷ (front ++ e ∷ []) in
    let x : World = happens A w (Asked r c) in
    let (up, may) = split_run A x (front ++ e ∷ []) front e run.1 ([], refl) in
    let kind : HasKind c.ask.kind ((world_after A x front).req r) =
    lasts_run A (HasKind c.ask.kind) (kind_lasts A c.ask.kind) x front r up (omega (arith, run.0.next))
    (subst (HasKind c.ask.kind) (sym (put_here w.req r (Some (new_request c)))) refl) in
    let (d, (fine, same)) = answers_flush A (world_after A x front) r c e may is kind in
    subst (λ (y : World). y.image.past b ≡ y.image.now b ∷ [])
    (sym (after_append A (opening_world o) before es ∙ after_append A x front (e ∷ [])))
    (flush_alone A w es (Asked r c ∷ []) front e r d b
    (record { pos = pos; told = told; ok = ok; none = alone.idle; alone = clean; run = run })
    (same ∙ flush) fine ([], refl) (λ s. asked_none A r s c) (own_of r front (own_front r front (e ∷ []) alone.own)))

pub clean_settled : (A : ℕ) (w : World) (es : List Element) → IsCleanSettled w.image → IsCleanSettled (world_after A w es).image
clean_settled A w es clean = run_alone A w es clean
