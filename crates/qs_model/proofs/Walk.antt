-- One request's entries of one byte, from its Ask to its answer.
use Rattle.std.proofs.Common.{◌≡◌, ◌≢◌, ℕ, ◌<◌, ◌≤◌, inl, inr, Bool, true, false, ◌==◌, cond, List, [], ◌∷◌, ◌++◌, Option, Some, None, refl, sym, ap, ◌∙◌, subst, arith, ne_eqb}
use Rattle.std.specs.List.{filter}
use Rattle.std.proofs.lemmas.List.Elements.{filter-append}
use Rattle.qs_cells.specs.declared.cell.CellEntry.{CellEntry}
use Rattle.qs_model.specs.Requests.{Client, Pads, Req, Stage, new_request, abandon}
use Rattle.qs_model.specs.Worlds.{World}
use Rattle.qs_model.specs.Acts.{Act, Loads, Stores, StoreFails, Element, Attached, NoExport, Crowded, Left, Detached, NotAttached, Asked, Did, Exported, Planned, Crashed}
use Rattle.qs_model.specs.Guards.{CanCome, MayDo}
use Rattle.qs_model.specs.Steps.{moved, leaves, happens, world_after, Runs}
use Rattle.qs_model.specs.Histories.{cell_of, cell_at, cell, is_entry_of, reads_in, writes_in}
use Rattle.qs_model.specs.Laws.{entries}
use Rattle.qs_model.proofs.Basics.{put_here, put_other, same_or}
use Rattle.qs_model.proofs.Facts.{Shaped, Ok}
use Rattle.qs_model.proofs.Holders.{HasMoved, some_none}
use Rattle.qs_model.proofs.Kept.{step_ok}
use Rattle.qs_model.proofs.Along.{lasts_run, gone_lasts, next_step}

-- What is still to come of a request, `due q es`, when it is to end well: `all` from the Ask on.
pub record Plan (A x r : ℕ) (due : Req → List CellEntry → Type 0) (all : List CellEntry) : Type 0 where
  pub own : (w : World) (c : Client) (d : Bool) (p : Pads) {stage : Stage} (act : Act stage) (es : List CellEntry) → Shaped A c stage → MayDo A w c p act →
      HasMoved (λ q. due q es) (moved A c d p act) →
      due (record { client = c; dropped = d; pads = p; stage = stage }) (filter (is_entry_of r) (cell_of A x r c act) ++ es)
  pub left : (q : Req) (es : List CellEntry) → due (abandon q) es → due q es
  pub made : (c : Client) (es : List CellEntry) → due (new_request c) es → es ≡ all

pub single : (r : ℕ) (e : CellEntry) (b : Bool) → is_entry_of r e ≡ false → filter (is_entry_of r) (cond b (e ∷ []) []) ≡ []
single r e true other = ap (λ (t : Bool). cond t (e ∷ []) []) other
single r e false other = refl

-- another's row has no entry of the request
pub foreign : (A x r s : ℕ) (c : Client) {stage : Stage} (act : Act stage) → s ≢ r → filter (is_entry_of r) (cell_of A x s c act) ≡ []
foreign A x r s c (Loads {b = b} bytes) other = single r _ (reads_in A c b x) (ne_eqb s r other)
foreign A x r s c (Stores {b = b} bytes past) other = single r _ (writes_in A c b x) (ne_eqb s r other)
foreign A x r s c (StoreFails {b = b} bytes took past) other = single r _ (writes_in A c b x) (ne_eqb s r other)
foreign A x r s c _ other = refl

pub entries_cons : (A x r : ℕ) (e : Element) (es : List Element) → entries A x r (e ∷ es) ≡ filter (is_entry_of r) (cell_at A x e) ++ entries A x r es
entries_cons A x r e es = filter-append (is_entry_of r) (cell_at A x e) (cell A x es)

-- a request that is gone isn't there at the end
pub gone_end : (A : ℕ) (w : World) (es : List Element) (r : ℕ) (q : Req) → Runs A w es → r < w.next → w.req r ≡ None → (world_after A w es).req r ≡ Some q → ⊥
gone_end A w es r q run made none is = some_none (sym is ∙ lasts_run A _ (gone_lasts A) w es r run made none)

-- what is due before a list of steps: of a request that is there, and of one that isn't made yet
pub record Due (A x r : ℕ) (due : Req → List CellEntry → Type 0) (all : List CellEntry) (w : World) (es : List CellEntry) : Type 0 where
  pub there : (q : Req) → w.req r ≡ Some q → due q es
  pub unmade : w.req r ≡ None → w.next ≤ r → es ≡ all

pub inside : (x y : Req) → Some x ≡ Some y → x ≡ y
inside x y e = cc

-- a step that doesn't touch the request
pub due_same : (A x r : ℕ) (due : Req → List CellEntry → Type 0) (all es : List CellEntry) (w v : World) → v.req r ≡ w.req r → w.next ≡ v.next →
    Due A x r due all v es → Due A x r due all w es
due_same A x r due all es w v same next h = record {
  there = λ q is. h.there q (same ∙ is);
  unmade = λ none old. h.unmade (same ∙ none) (subst (λ (n : ℕ). n ≤ r) next old);
}

-- a session leaves
pub due_left : (A x r : ℕ) (due : Req → List CellEntry → Type 0) (all es : List CellEntry) (w v : World) (s : ℕ) → Plan A x r due all → v.req r ≡ leaves s (w.req r) → w.next ≡ v.next →
    Due A x r due all v es → Due A x r due all w es
due_left A x r due all es w v s plan same next h = record {
  there = λ q is. go q (q.client.session == s) (h.there _ (same ∙ ap (leaves s) is));
  unmade = λ none old. h.unmade (same ∙ ap (leaves s) none) (subst (λ (n : ℕ). n ≤ r) next old);
}
  where
    go : (q : Req) (b : Bool) → due (cond b (abandon q) q) es → due q es
    go q true d = plan.left q es d
    go q false d = d

-- the request's own row, or another's
pub due_did : (A x r s : ℕ) (due : Req → List CellEntry → Type 0) (all es : List CellEntry) (w : World) (p : Req) (act : Act p.stage) → Plan A x r due all → Ok A w → CanCome A w (Did s p act) →
    ((happens A w (Did s p act)).req r ≡ None → r < w.next → ⊥) → Due A x r due all (happens A w (Did s p act)) es → Due A x r due all w (filter (is_entry_of r) (cell_of A x s p.client act) ++ es)
due_did A x r s due all es w p act plan ok may gone h = elim (same_or s r) [
  | inl e ↦ record {
    there = λ q is. subst (λ (n : ℕ). due q (filter (is_entry_of r) (cell_of A x n p.client act) ++ es)) (sym e)
        (subst (λ (y : Req). due y (filter (is_entry_of r) (cell_of A x r p.client act) ++ es)) (inside p q (sym may.0 ∙ ap w.req e ∙ is)) (own e));
    unmade = λ none old. absurd (some_none (sym may.0 ∙ ap w.req e ∙ none));
  }
  | inr n ↦ subst (λ (es' : List CellEntry). Due A x r due all w (es' ++ es)) (sym (foreign A x r s p.client act n))
      (due_same A x r due all es w (happens A w (Did s p act)) (put_other w.req s _ r (λ f. n (sym f))) refl h)
]
  where
    moves : (o : Option Req) → moved A p.client p.dropped p.pads act ≡ o → s ≡ r → HasMoved (λ q. due q es) o
    moves None is e = gone (ap (happens A w (Did s p act)).req (sym e) ∙ put_here w.req s _ ∙ is) (subst (λ (n : ℕ). n < w.next) e (ok.below s p may.0))
    moves (Some q) is e = h.there q (ap (happens A w (Did s p act)).req (sym e) ∙ put_here w.req s _ ∙ is)

    own : s ≡ r → due p (filter (is_entry_of r) (cell_of A x r p.client act) ++ es)
    own e = plan.own w p.client p.dropped p.pads act es (ok.well s p may.0).shaped may.1 (moves _ refl e)

-- the request is made, or another
pub due_asked : (A x r s : ℕ) (due : Req → List CellEntry → Type 0) (all es : List CellEntry) (w : World) (c : Client) → Plan A x r due all → CanCome A w (Asked s c) → Ok A w →
    Due A x r due all (happens A w (Asked s c)) es → Due A x r due all w es
due_asked A x r s due all es w c plan may ok h = elim (same_or s r) [
  | inl e ↦ record {
    there = λ q is. let lt : r < w.next = ok.below r q is in let f : s ≡ w.next = may.next in absurd (omega arith);
    unmade = λ none old. plan.made c es (h.there (new_request c) (ap (happens A w (Asked s c)).req (sym e) ∙ put_here w.req s _));
  }
  | inr n ↦ record {
    there = λ q is. h.there q (put_other w.req s _ r (λ f. n (sym f)) ∙ is);
    unmade = λ none old. h.unmade (put_other w.req s _ r (λ f. n (sym f)) ∙ none) (let f : s ≡ w.next = may.next in omega arith);
  }
]

pub due_step : (A x r : ℕ) (due : Req → List CellEntry → Type 0) (all es : List CellEntry) (w : World) (e : Element) → Plan A x r due all → Ok A w → CanCome A w e →
    ((happens A w e).req r ≡ None → r < w.next → ⊥) → Due A x r due all (happens A w e) es → Due A x r due all w (filter (is_entry_of r) (cell_at A x e) ++ es)
due_step A x r due all es w (Attached s name e) plan ok may gone h = due_same A x r due all es w (happens A w (Attached s name e)) refl refl h
due_step A x r due all es w (NoExport s name) plan ok may gone h = h
due_step A x r due all es w (Crowded s name) plan ok may gone h = h
due_step A x r due all es w (Left s e) plan ok may gone h = due_left A x r due all es w (happens A w (Left s e)) s plan refl refl h
due_step A x r due all es w (Detached s e) plan ok may gone h = due_same A x r due all es w (happens A w (Detached s e)) refl refl h
due_step A x r due all es w (NotAttached s e) plan ok may gone h = h
due_step A x r due all es w (Asked s c) plan ok may gone h = due_asked A x r s due all es w c plan may ok h
due_step A x r due all es w (Did s p act) plan ok may gone h = due_did A x r s due all es w p act plan ok may gone h
due_step A x r due all es w (Exported op e) plan ok may gone h = due_same A x r due all es w (happens A w (Exported op e)) refl refl h
due_step A x r due all es w (Planned j fail) plan ok may gone h = due_same A x r due all es w (happens A w (Planned j fail)) refl refl h
due_step A x r due all es w (Crashed left) plan ok may gone h = record {
  there = λ q is. absurd (gone refl (ok.below r q is));
  unmade = λ none old. h.unmade refl old;
}

-- what is due at the end was due all along
pub due_run : (A x r : ℕ) (due : Req → List CellEntry → Type 0) (all : List CellEntry) (w : World) (es : List Element) (q : Req) → Plan A x r due all → 0 < A → Ok A w → Runs A w es →
    (world_after A w es).req r ≡ Some q → due q [] → Due A x r due all w (entries A x r es)
due_run A x r due all w [] q plan pos ok run is end = record {
  there = λ p there. subst (λ (y : Req). due y []) (inside q p (sym is ∙ there)) end;
  unmade = λ none old. absurd (some_none (sym is ∙ none));
}
due_run A x r due all w (e ∷ es) q plan pos ok run is end =
    subst (λ (l : List CellEntry). Due A x r due all w l) (sym (entries_cons A x r e es))
    (due_step A x r due all (entries A x r es) w e plan ok run.0
    (λ none made. gone_end A (happens A w e) es r q run.1 (next_step A w e r made) none is)
    (due_run A x r due all (happens A w e) es q plan pos (step_ok A w e pos ok run.0) run.1 is end))
