-- The clients of an export are exactly the sessions that are attached to it, each once.
use Rattle.std.proofs.Common.{◌≡◌, ◌≢◌, ℕ, ◌⊎◌, inl, inr, Bool, true, false, cond, ◌==◌, List, [], ◌∷◌, ◌++◌, Option, Some, None, refl, sym, ap, ◌∙◌, subst, arith, append-nil, append_assoc}
use Rattle.qs_part.specs.declared.graph.ExportInfo.{ExportInfo}
use Rattle.qs_model.specs.Puts.{put, without}
use Rattle.qs_model.specs.Laws.{opening_world}
use Rattle.qs_model.specs.Worlds.{Session, Away, Live, Leaving, World, Opening}
use Rattle.qs_model.specs.Acts.{Element, Attached, NoExport, Crowded, Left, Detached, NotAttached, Asked, Did, Exported, Planned, Crashed}
use Rattle.qs_model.specs.Guards.{CanCome}
use Rattle.qs_model.specs.Steps.{happens, world_after, Runs}
use Rattle.qs_model.proofs.Basics.{put_cases}
use Rattle.qs_verdicts.specs.Traces.{attached, attached_step}
use Rattle.qs_verdicts.specs.Lists.{IsAmong, IsOnce}
use Rattle.qs_verdicts.proofs.Folds.{attached_more, if_other, if_same}

-- the export that a session is at
abbrev pub export_of : Session → Option ℕ
export_of Away = None
export_of (Live e) = Some e
export_of (Leaving e) = Some e

-- the clients are the sessions at an export, and these are the attached ones
pub record AreClients (w : World) (before : List Element) : Type 0 where
  pub session : (s : ℕ) → attached s before ≡ export_of (w.session s)
  pub among : (s e : ℕ) → IsAmong s (w.clients e) → export_of (w.session s) ≡ Some e
  pub all : (s e : ℕ) → export_of (w.session s) ≡ Some e → IsAmong s (w.clients e)
  pub once : (e : ℕ) → IsOnce (w.clients e)

-- a step that leaves sessions and clients as they were
pub same_clients : (w v : World) (before : List Element) (e : Element) → v.session ≡ w.session → v.clients ≡ w.clients →
    ((s : ℕ) (o : Option ℕ) → attached_step s o e ≡ o) → AreClients w before → AreClients v (before ++ e ∷ [])
same_clients w v before e sessions clients same h = record {
  session = λ s. attached_more s None before e ∙ same s (attached s before) ∙ h.session s ∙ ap (λ (f : ℕ → Session). export_of (f s)) (sym sessions);
  among = λ s d i. ap (λ (f : ℕ → Session). export_of (f s)) sessions ∙ h.among s d (subst (λ (f : ℕ → List ℕ). IsAmong s (f d)) clients i);
  all = λ s d i. subst (λ (f : ℕ → List ℕ). IsAmong s (f d)) (sym clients) (h.all s d (ap (λ (f : ℕ → Session). export_of (f s)) (sym sessions) ∙ i));
  once = λ d. subst (λ (f : ℕ → List ℕ). IsOnce (f d)) (sym clients) (h.once d);
}

never_some : (e : ℕ) → None ≡ Some e → ⊥
never_some e h = cc

some_same : (e d : ℕ) → Some e ≡ Some d → d ≡ e
some_same e d h = cc

pub attached_clients : (w : World) (A s : ℕ) (name : List ℕ) (info : ExportInfo) (before : List Element) → w.session s ≡ Away → AreClients w before →
    AreClients (happens A w (Attached s name info)) (before ++ Attached s name info ∷ [])
attached_clients w A s name info before away h = record {
  session = λ t. attached_more t None before (Attached s name info)
      ∙ put_cases (λ g. cond (s == t) (Some info.e) (attached t before) ≡ export_of g) w.session s (Live info.e) t
      (λ is. if_same s t (Some info.e) (attached t before) (sym is))
      (λ other. if_other s t (Some info.e) (attached t before) (λ f. other (sym f)) ∙ h.session t);
  among = λ t d. put_cases (λ xs. IsAmong t xs → export_of (put w.session s (Live info.e) t) ≡ Some d) w.clients info.e (s ∷ w.clients info.e) d
      (λ here i. elim i [
        | inl is ↦ put_cases (λ g. export_of g ≡ Some d) w.session s (Live info.e) t (λ _. ap Some (sym here)) (λ other. absurd (other (sym is)))
        | inr j ↦ old t d (subst (λ (k : ℕ). IsAmong t (w.clients k)) (sym here) j)
      ])
      (λ _ j. old t d j);
  all = λ t d. put_cases (λ g. export_of g ≡ Some d → IsAmong t (put w.clients info.e (s ∷ w.clients info.e) d)) w.session s (Live info.e) t
      (λ is at. put_cases (λ xs. IsAmong t xs) w.clients info.e (s ∷ w.clients info.e) d (λ _. inl (sym is)) (λ other. absurd (other (some_same info.e d at))))
      (λ _ at. put_cases (λ xs. IsAmong t xs) w.clients info.e (s ∷ w.clients info.e) d
      (λ here. inr (subst (λ (k : ℕ). IsAmong t (w.clients k)) here (h.all t d at))) (λ _. h.all t d at));
  once = λ d. put_cases (λ xs. IsOnce xs) w.clients info.e (s ∷ w.clients info.e) d
      (λ _. ((λ i. outside info.e i), h.once info.e)) (λ _. h.once d);
}
  where
    -- the session that attaches was no client
    outside : (e : ℕ) → IsAmong s (w.clients e) → ⊥
    outside e i = never_some e (ap export_of (sym away) ∙ h.among s e i)

    old : (t d : ℕ) → IsAmong t (w.clients d) → export_of (put w.session s (Live info.e) t) ≡ Some d
    old t d i = put_cases (λ g. export_of g ≡ Some d) w.session s (Live info.e) t
        (λ is. absurd (outside d (subst (λ (k : ℕ). IsAmong k (w.clients d)) is i))) (λ _. h.among t d i)

-- a list with one session taken out
pub without_among : (s t : ℕ) (xs : List ℕ) → IsAmong t (without s xs) → IsAmong t xs
without_among s t [] i = i
without_among s t (x ∷ xs) i = go (x == s) i (without_among s t xs)
  where
    go : (b : Bool) → IsAmong t (cond b xs (x ∷ without s xs)) → (IsAmong t (without s xs) → IsAmong t xs) → IsAmong t (x ∷ xs)
    go true j rest = inr j
    go false (inl e) rest = inl e
    go false (inr j) rest = inr (rest j)

pub among_without : (s t : ℕ) (xs : List ℕ) → t ≢ s → IsAmong t xs → IsAmong t (without s xs)
among_without s t [] other i = i
among_without s t (x ∷ xs) other i = go (x == s) refl i (among_without s t xs other)
  where
    go : (b : Bool) → (x == s) ≡ b → (x ≡ t) ⊎ IsAmong t xs → (IsAmong t xs → IsAmong t (without s xs)) → IsAmong t (cond b xs (x ∷ without s xs))
    go true is (inl e) rest = absurd (other (sym e ∙ grind (arith, is)))
    go true is (inr j) rest = j
    go false is (inl e) rest = inl e
    go false is (inr j) rest = inr (rest j)

pub without_once : (s : ℕ) (xs : List ℕ) → IsOnce xs → IsOnce (without s xs)
without_once s [] h = h
without_once s (x ∷ xs) h = go (x == s) (without_once s xs h.1)
  where
    go : (b : Bool) → IsOnce (without s xs) → IsOnce (cond b xs (x ∷ without s xs))
    go true rest = h.1
    go false rest = ((λ i. h.0 (without_among s x xs i)), rest)

-- the one that is taken out of a list without repetition isn't in it any more
pub without_gone : (s : ℕ) (xs : List ℕ) → IsOnce xs → IsAmong s (without s xs) → ⊥
without_gone s [] h i = i
without_gone s (x ∷ xs) h i = go (x == s) refl i (without_gone s xs h.1)
  where
    go : (b : Bool) → (x == s) ≡ b → IsAmong s (cond b xs (x ∷ without s xs)) → (IsAmong s (without s xs) → ⊥) → ⊥
    go true is j rest = let e : x ≡ s = grind (arith, is) in h.0 (subst (λ (k : ℕ). IsAmong k xs) (sym e) j)
    go false is (inl e) rest = grind (arith, is, e)
    go false is (inr j) rest = rest j

pub detached_clients : (w : World) (A s e : ℕ) (before : List Element) → w.session s ≡ Leaving e → AreClients w before →
    AreClients (happens A w (Detached s e)) (before ++ Detached s e ∷ [])
detached_clients w A s e before leaving h = record {
  session = λ t. attached_more t None before (Detached s e)
      ∙ put_cases (λ g. cond (s == t) None (attached t before) ≡ export_of g) w.session s Away t
      (λ is. if_same s t None (attached t before) (sym is))
      (λ other. if_other s t None (attached t before) (λ f. other (sym f)) ∙ h.session t);
  among = λ t d. put_cases (λ xs. IsAmong t xs → export_of (put w.session s Away t) ≡ Some d) w.clients e (without s (w.clients e)) d
      (λ here i. put_cases (λ g. export_of g ≡ Some d) w.session s Away t
      (λ is. absurd (without_gone s (w.clients e) (h.once e) (subst (λ (k : ℕ). IsAmong k (without s (w.clients e))) is i)))
      (λ _. h.among t d (subst (λ (k : ℕ). IsAmong t (w.clients k)) (sym here) (without_among s t (w.clients e) i))))
      (λ elsewhere i. put_cases (λ g. export_of g ≡ Some d) w.session s Away t
      (λ is. absurd (elsewhere (some_same e d (ap export_of (sym leaving) ∙ h.among s d (subst (λ (k : ℕ). IsAmong k (w.clients d)) is i)))))
      (λ _. h.among t d i));
  all = λ t d. put_cases (λ g. export_of g ≡ Some d → IsAmong t (put w.clients e (without s (w.clients e)) d)) w.session s Away t
      (λ _ at. absurd (never_some d at))
      (λ other at. put_cases (λ xs. IsAmong t xs) w.clients e (without s (w.clients e)) d
      (λ here. among_without s t (w.clients e) other (subst (λ (k : ℕ). IsAmong t (w.clients k)) here (h.all t d at))) (λ _. h.all t d at));
  once = λ d. put_cases (λ xs. IsOnce xs) w.clients e (without s (w.clients e)) d (λ _. without_once s (w.clients e) (h.once e)) (λ _. h.once d);
}

pub left_clients : (w : World) (A s e : ℕ) (before : List Element) → w.session s ≡ Live e → AreClients w before →
    AreClients (happens A w (Left s e)) (before ++ Left s e ∷ [])
left_clients w A s e before live h = record {
  session = λ t. attached_more t None before (Left s e) ∙ h.session t ∙ sym (same t);
  among = λ t d i. same t ∙ h.among t d i;
  all = λ t d at. h.all t d (sym (same t) ∙ at);
  once = h.once;
}
  where
    same : (t : ℕ) → export_of (put w.session s (Leaving e) t) ≡ export_of (w.session t)
    same t = put_cases (λ g. export_of g ≡ export_of (w.session t)) w.session s (Leaving e) t
        (λ is. sym (ap (λ (k : ℕ). export_of (w.session k)) is ∙ ap export_of live)) (λ _. refl)

-- each step keeps the clients
pub step_clients : (A : ℕ) (w : World) (e : Element) (before : List Element) → CanCome A w e → AreClients w before → AreClients (happens A w e) (before ++ e ∷ [])
step_clients A w (Attached s name info) before may h = attached_clients w A s name info before may.0 h
step_clients A w (NoExport s name) before may h = same_clients w w before (NoExport s name) refl refl (λ t o. refl) h
step_clients A w (Crowded s name) before may h = same_clients w w before (Crowded s name) refl refl (λ t o. refl) h
step_clients A w (Left s e) before may h = left_clients w A s e before may h
step_clients A w (Detached s e) before may h = detached_clients w A s e before may.0.0 h
step_clients A w (NotAttached s e) before may h = same_clients w w before (NotAttached s e) refl refl (λ t o. refl) h
step_clients A w (Asked s c) before may h = same_clients w (happens A w (Asked s c)) before (Asked s c) refl refl (λ t o. refl) h
step_clients A w (Did s q act) before may h = same_clients w (happens A w (Did s q act)) before (Did s q act) refl refl (λ t o. refl) h
step_clients A w (Exported op e) before may h = same_clients w (happens A w (Exported op e)) before (Exported op e) refl refl (λ t o. refl) h
step_clients A w (Planned j fail) before may h = same_clients w (happens A w (Planned j fail)) before (Planned j fail) refl refl (λ t o. refl) h
step_clients A w (Crashed left) before may h = record {
  session = λ t. attached_more t None before (Crashed left);
  among = λ t d i. absurd i;
  all = λ t d at. absurd (never_some d at);
  once = λ d. tt;
}

pub run_clients : (A : ℕ) (w : World) (front es : List Element) → Runs A w es → AreClients w front → AreClients (world_after A w es) (front ++ es)
run_clients A w front [] run h = subst (λ (xs : List Element). AreClients w xs) (sym (append-nil front)) h
run_clients A w front (e ∷ es) run h =
    subst (λ (xs : List Element). AreClients (world_after A (happens A w e) es) xs) (append_assoc front (e ∷ []) es)
    (run_clients A (happens A w e) (front ++ e ∷ []) es run.1 (step_clients A w e front run.0 h))

pub new_clients : (o : Opening) → AreClients (opening_world o) []
new_clients o = record { session = λ s. refl; among = λ s e i. absurd i; all = λ s e at. absurd (never_some e at); once = λ e. tt }
