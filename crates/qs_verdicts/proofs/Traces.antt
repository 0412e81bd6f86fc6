-- Every run keeps what is traced of its requests.
use Rattle.std.proofs.Common.{◌≡◌, ◌≢◌, ℕ, ◌<◌, inl, inr, Bool, true, false, cond, ◌==◌, List, [], ◌∷◌, ◌++◌, Option, Some, None, refl, sym, ◌∙◌, subst, append-nil, append_assoc}
use Rattle.qs_tracker.specs.Table.{TrackerValue}
use Rattle.qs_model.specs.Requests.{Client, Req, new_request, abandon, form_error}
use Rattle.qs_model.specs.Worlds.{World}
use Rattle.qs_model.specs.Acts.{Act, Element, Attached, NoExport, Crowded, Left, Detached, NotAttached, Asked, Did, Exported, Planned, Crashed}
use Rattle.qs_model.specs.Guards.{MayDo, CanCome}
use Rattle.qs_model.specs.Steps.{moved, leaves, tracked, happens, world_after, Runs}
use Rattle.qs_model.proofs.Basics.{choose, put_tells}
use Rattle.qs_model.proofs.Facts.{Ok, Well}
use Rattle.qs_model.proofs.Holders.{some_none}
use Rattle.qs_model.proofs.Kept.{away, for_moved, step_ok}
use Rattle.qs_model.proofs.Others.{others_seat}
use Rattle.qs_verdicts.specs.Traces.{Trace, blank, traced, traced_row, traced_step}
use Rattle.qs_verdicts.proofs.Folds.{if_other, if_same, traced_more}
use Rattle.qs_verdicts.proofs.Tracing.{TraceAt, left_trace, row_trace, same_trace}

-- what is traced of every live request
abbrev pub AllTraced : ℕ → World → List Element → Type 0
AllTraced A w before = (r : ℕ) (q : Req) → w.req r ≡ Some q → TraceAt A w.tracker q.client q.stage (traced A r before)

-- a step that traces nothing of the request
still_traced : (A r : ℕ) (v : TrackerValue) (before : List Element) (e : Element) (q : Req) → ((t : Trace) → traced_step A r t e ≡ t) →
    TraceAt A v q.client q.stage (traced A r before) → TraceAt A v q.client q.stage (traced A r (before ++ e ∷ []))
still_traced A r v before e q same at =
    subst (λ (t : Trace). TraceAt A v q.client q.stage t) (sym (traced_more A r blank before e ∙ same (traced A r before))) at

-- a request that was made
made_traced : (A : ℕ) (v : TrackerValue) (c : Client) → TraceAt A v c (new_request c).stage blank
made_traced A v c = choose (λ g. TraceAt A v c g blank) (form_error c.ask) _ _ (λ _. tt) (λ _. choose (λ g. TraceAt A v c g blank) c.buffered _ _ (λ _. (refl, refl, refl)) (λ _. tt))

-- a request's own row
own_traced : (A : ℕ) (w : World) (r : ℕ) (q p : Req) (act : Act q.stage) (before : List Element) → 0 < A → Ok A w → w.req r ≡ Some q → MayDo A w q.client q.pads act →
    moved A q.client q.dropped q.pads act ≡ Some p → TraceAt A w.tracker q.client q.stage (traced A r before) →
    TraceAt A (tracked A w.tracker q.client act) p.client p.stage (traced A r (before ++ Did r q act ∷ []))
own_traced A w r q p act before pos ok here may is at =
    let well : Well A w.tells w.tracker w.image q = ok.well r q here in
    let row : TraceAt A (tracked A w.tracker q.client act) p.client p.stage (traced_row A (traced A r before) q.client act) =
    for_moved (λ x. TraceAt A (tracked A w.tracker q.client act) x.client x.stage (traced_row A (traced A r before) q.client act)) _ p
    (row_trace A w q.client q.dropped q.pads act (traced A r before) pos may well.shaped well.seated at) is in
    subst (λ (t : Trace). TraceAt A (tracked A w.tracker q.client act) p.client p.stage t)
    (sym (traced_more A r blank before (Did r q act) ∙ if_same r r (traced_row A (traced A r before) q.client act) (traced A r before) refl)) row

-- another request's
other_traced : (A : ℕ) (w : World) (r s : ℕ) (q p : Req) (act : Act q.stage) (before : List Element) → Ok A w → w.req r ≡ Some q → w.req s ≡ Some p → s ≢ r →
    MayDo A w q.client q.pads act → TraceAt A w.tracker p.client p.stage (traced A s before) →
    TraceAt A (tracked A w.tracker q.client act) p.client p.stage (traced A s (before ++ Did r q act ∷ []))
other_traced A w r s q p act before ok here there other may at =
    still_traced A s (tracked A w.tracker q.client act) before (Did r q act) p (λ t. if_other r s (traced_row A t q.client act) t (λ f. other (sym f)))
    (same_trace A w.tracker (tracked A w.tracker q.client act) p.client p.stage (traced A s before)
    (λ k own. others_seat A w q.client q.pads act k may (away A w r s q p act ok here there other may k own)) at)

-- a session that leaves
left_traced : (A s r : ℕ) (w : World) (before : List Element) (e : ℕ) (o : Option Req) (x : Req) → Ok A w → w.req r ≡ o → leaves s o ≡ Some x → AllTraced A w before →
    TraceAt A w.tracker x.client x.stage (traced A r (before ++ Left s e ∷ []))
left_traced A s r w before e None x ok there gone all = absurd (some_none (sym gone))
left_traced A s r w before e (Some q) x ok there gone all = go (q.client.session == s) (inside _ x gone)
  where
    inside : (a b : Req) → Some a ≡ Some b → a ≡ b
    inside a b h = cc

    go : (b : Bool) → cond b (abandon q) q ≡ x → TraceAt A w.tracker x.client x.stage (traced A r (before ++ Left s e ∷ []))
    go true is =
        subst (λ (y : Req). TraceAt A w.tracker y.client y.stage (traced A r (before ++ Left s e ∷ []))) is
        (still_traced A r w.tracker before (Left s e) (abandon q) (λ t. refl)
        (left_trace A w.tracker q.client q.stage (traced A r before) (ok.well r q there).seated (all r q there)))
    go false is =
        subst (λ (y : Req). TraceAt A w.tracker y.client y.stage (traced A r (before ++ Left s e ∷ []))) is
        (still_traced A r w.tracker before (Left s e) q (λ t. refl) (all r q there))

-- each step keeps what is traced
step_traced : (A : ℕ) (w : World) (e : Element) (before : List Element) → 0 < A → Ok A w → CanCome A w e → AllTraced A w before → AllTraced A (happens A w e) (before ++ e ∷ [])
step_traced A w (Attached s name info) before pos ok may all r q is = still_traced A r w.tracker before (Attached s name info) q (λ t. refl) (all r q is)
step_traced A w (NoExport s name) before pos ok may all r q is = still_traced A r w.tracker before (NoExport s name) q (λ t. refl) (all r q is)
step_traced A w (Crowded s name) before pos ok may all r q is = still_traced A r w.tracker before (Crowded s name) q (λ t. refl) (all r q is)
step_traced A w (Left s e) before pos ok may all r x is = left_traced A s r w before e (w.req r) x ok refl is all
step_traced A w (Detached s e) before pos ok may all r q is = still_traced A r w.tracker before (Detached s e) q (λ t. refl) (all r q is)
step_traced A w (NotAttached s e) before pos ok may all r q is = still_traced A r w.tracker before (NotAttached s e) q (λ t. refl) (all r q is)
step_traced A w (Asked s c) before pos ok may all r q is = elim (put_tells w.req s (Some (new_request c)) r (Some q) is) [
  | inl h ↦
      subst (λ (x : Req). TraceAt A w.tracker x.client x.stage (traced A r (before ++ Asked s c ∷ []))) (inside (new_request c) q h.1)
      (subst (λ (t : Trace). TraceAt A w.tracker c (new_request c).stage t) (sym (traced_more A r blank before (Asked s c) ∙ if_same s r blank (traced A r before) (sym h.0)))
      (made_traced A w.tracker c))
  | inr h ↦ still_traced A r w.tracker before (Asked s c) q (λ t. if_other s r blank t (λ f. h.0 (sym f))) (all r q h.1)
]
  where
    inside : (a b : Req) → Some a ≡ Some b → a ≡ b
    inside a b h = cc
step_traced A w (Did s q act) before pos ok may all r x is = elim (put_tells w.req s (moved A q.client q.dropped q.pads act) r (Some x) is) [
  | inl h ↦ subst (λ (k : ℕ). TraceAt A (tracked A w.tracker q.client act) x.client x.stage (traced A k (before ++ Did s q act ∷ []))) (sym h.0)
      (own_traced A w s q x act before pos ok may.0 may.1 h.1 (all s q may.0))
  | inr h ↦ other_traced A w s r q x act before ok may.0 h.1 h.0 may.1 (all r x h.1)
]
step_traced A w (Exported op e) before pos ok may all r q is = still_traced A r w.tracker before (Exported op e) q (λ t. refl) (all r q is)
step_traced A w (Planned j fail) before pos ok may all r q is = still_traced A r w.tracker before (Planned j fail) q (λ t. refl) (all r q is)
step_traced A w (Crashed left) before pos ok may all r q is = absurd (some_none (sym is))

pub run_traced : (A : ℕ) (w : World) (front es : List Element) → 0 < A → Ok A w → Runs A w es → AllTraced A w front → AllTraced A (world_after A w es) (front ++ es)
run_traced A w front [] pos ok run all = subst (λ (xs : List Element). AllTraced A w xs) (sym (append-nil front)) all
run_traced A w front (e ∷ es) pos ok run all =
    subst (λ (xs : List Element). AllTraced A (world_after A (happens A w e) es) xs) (append_assoc front (e ∷ []) es)
    (run_traced A (happens A w e) (front ++ e ∷ []) es pos (step_ok A w e pos ok run.0) run.1 (step_traced A w e front pos ok run.0 all))
