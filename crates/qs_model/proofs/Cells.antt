-- Each byte's history is legal, and the byte is what it leaves.
use Rattle.std.proofs.Common.{◌≡◌, ℕ, ◌+◌, ◌*◌, ◌/◌, ◌%◌, ◌<◌, ◌≤◌, inl, inr, Bool, true, false, ◌&&◌, ◌==◌, cond, List, [], ◌∷◌, ◌++◌, get_or, IsTrue, refl, sym, ap, ◌∙◌, subst, arith, true≢false, eq-eqb, ne_eqb}
use Rattle.qs_cells.specs.declared.cell.CellEntry.{CellEntry}
use Rattle.qs_cells.specs.declared.cell.CellEntry.TheVariants.{Read, Write, Maybe, Crash}
use Rattle.qs_cells.specs.Cells.{value_then, value_after, Legal}
use Rattle.qs_cells.proofs.Histories.{legal_cons, legal_rest, legal_first, legal_none}
use Rattle.qs_part.specs.declared.stripe.Side.TheVariants.{Head, Tail}
use Rattle.qs_model.specs.Puts.{put}
use Rattle.qs_model.specs.Requests.{Client, Pads, Stage, ToStore, In, edge, pad, covers, writes, reads, body_at}
use Rattle.qs_model.specs.Worlds.{Image, World, byte_at}
use Rattle.qs_model.specs.Acts.{Act, Loads, Stores, StoreFails, Element, Attached, NoExport, Crowded, Left, Detached, NotAttached, Asked, Did, Exported, Planned, Crashed}
use Rattle.qs_model.specs.Guards.{MayDo, CanCome, CanStore}
use Rattle.qs_model.specs.Steps.{imaged, happens, world_after, Runs}
use Rattle.qs_model.specs.Histories.{cell_of, cell_at, cell, reads_in, writes_in, IsStoreOf}
use Rattle.qs_model.specs.Laws.{Alters, Covered, Histories}
use Rattle.qs_model.proofs.Basics.{choose, put_here, put_other, same_or, block_at, block_low, block_high}
use Rattle.qs_model.proofs.Geometry.{outside, same_eqb}
use Rattle.qs_model.proofs.Facts.{Shaped, Storing, Keeps, Ok}
use Rattle.qs_model.proofs.Kept.{step_ok, run_ok, after_append, split_run, front_run}

-- these entries are legal from one value on, and leave another
pub record Leads (from to : ℕ) (entries : List CellEntry) : Type 0 where
  pub legal : Legal from entries
  pub leaves : to ≡ value_after from entries

pub legal_append : (v : ℕ) (xs ys : List CellEntry) → Legal v xs → Legal (value_after v xs) ys → Legal v (xs ++ ys)
legal_append v [] ys here there = there
legal_append v (e ∷ xs) ys here there =
    legal_cons v e (xs ++ ys) (legal_first v e xs here) (legal_append (value_then v e) xs ys (legal_rest v e xs here) there)

pub value_append : (v : ℕ) (xs ys : List CellEntry) → value_after v (xs ++ ys) ≡ value_after (value_after v xs) ys
value_append v [] ys = refl
value_append v (e ∷ xs) ys = value_append (value_then v e) xs ys

pub leads_none : (v w : ℕ) → w ≡ v → Leads v w []
leads_none v w same = record { legal = legal_none v; leaves = same }

pub leads_write : (r v w u : ℕ) → w ≡ u → Leads v w (Write r u ∷ [])
leads_write r v w u same = record { legal = legal_cons v (Write r u) [] refl (legal_none u); leaves = same }

pub leads_maybe : (r v w u : ℕ) (took : Bool) → w ≡ cond took u v → Leads v w (Maybe r u took ∷ [])
leads_maybe r v w u took same = record { legal = legal_cons v (Maybe r u took) [] refl (legal_none (cond took u v)); leaves = same }

pub leads_read : (r v u : ℕ) → u ≡ v → Leads v v (Read r u ∷ [])
leads_read r v u same = record { legal = legal_cons v (Read r u) [] (eq-eqb u v same) (legal_none v); leaves = refl }

pub three : (a b c : Bool) → a && b && c ≡ true → (a ≡ true) × (b ≡ true) × (c ≡ true)
three true true true e = (refl, refl, refl)
three true true false e = absurd (true≢false (sym e))
three true false c e = absurd (true≢false (sym e))
three false b c e = absurd (true≢false (sym e))

-- the byte of a block that was written, where the request covers it
pub covered_byte : (A : ℕ) (i : Image) (k : ℕ) (c : Client) (p : Pads) (b x : ℕ) (bytes : List ℕ) (past : List (List ℕ)) → 0 < A → CanStore A i k c p b bytes past →
    covers c x ≡ true → x / A ≡ b → get_or bytes (x % A) 0 ≡ body_at c x
covered_byte A i k c p b x bytes past pos can covered at =
    let place : b * A + x % A ≡ x = subst (λ (n : ℕ). n * A + x % A ≡ x) at (block_at x A pos) in
    let test : covers c (b * A + x % A) ≡ true = ap (covers c) place ∙ covered in
    can.merged (x % A) (omega arith)
    ∙ ap (λ (t : Bool). cond t (body_at c (b * A + x % A)) (get_or (pad p (cond (b == edge A c Head) Head Tail)) (x % A) 0)) test
    ∙ ap (body_at c) place

-- the byte of a block that was written, where the request doesn't cover it
pub pad_byte : (A : ℕ) (tells : Bool) (i : Image) (k : ℕ) (c : Client) (p : Pads) (b x : ℕ) (bytes : List ℕ) (past : List (List ℕ)) → 0 < A → IsTrue tells →
    CanStore A i k c p b bytes past → Storing A c b → Keeps A tells i c p (In k (ToStore b)) → covers c x ≡ false → x / A ≡ b →
    get_or bytes (x % A) 0 ≡ get_or (i.now (x / A)) (x % A) 0
pad_byte A tells i k c p b x bytes past pos told can storing kept uncovered at =
    let place : b * A + x % A ≡ x = subst (λ (n : ℕ). n * A + x % A ≡ x) at (block_at x A pos) in
    let test : covers c (b * A + x % A) ≡ false = ap (covers c) place ∙ uncovered in
    let merged : get_or bytes (x % A) 0 ≡ get_or (pad p (cond (b == edge A c Head) Head Tail)) (x % A) 0 =
    can.merged (x % A) (omega arith)
    ∙ ap (λ (t : Bool). cond t (body_at c (b * A + x % A)) (get_or (pad p (cond (b == edge A c Head) Head Tail)) (x % A) 0)) test in
    let low : b * A ≤ x = subst (λ (n : ℕ). n * A ≤ x) at (block_low x A pos) in
    let high : x < b * A + A = subst (λ (n : ℕ). x < n * A + A) at (block_high x A pos) in
    merged ∙ elim (outside A c b x pos storing.sound.some storing.reach low high uncovered) [
      | inl h ↦ ap (λ (bytes : List ℕ). get_or bytes (x % A) 0)
          (ap (pad p) (ap (λ (t : Bool). cond t Head Tail) (eq-eqb b (edge A c Head) h.0))
          ∙ sym ((kept Head (h.1, h.0)).same told) ∙ ap i.now (sym h.0 ∙ sym at))
      | inr h ↦ ap (λ (bytes : List ℕ). get_or bytes (x % A) 0)
          (ap (pad p) (ap (λ (t : Bool). cond t Head Tail) (ne_eqb b (edge A c Head) h.0))
          ∙ sym ((kept Tail h.2).same told) ∙ ap i.now (sym h.1 ∙ sym at))
    ]

-- what a block's byte is after a store of block b, with `now` for its content
pub stored_byte : (A : ℕ) (i : Image) (b x : ℕ) (now : List ℕ) → (x / A ≡ b → get_or now (x % A) 0 ≡ get_or (i.now (x / A)) (x % A) 0) →
    get_or (put i.now b now (x / A)) (x % A) 0 ≡ get_or (i.now (x / A)) (x % A) 0
stored_byte A i b x now here = elim (same_or (x / A) b) [
  | inl e ↦ ap (λ (bytes : List ℕ). get_or bytes (x % A) 0) (ap (put i.now b now) e ∙ put_here i.now b now) ∙ here e
  | inr n ↦ ap (λ (bytes : List ℕ). get_or bytes (x % A) 0) (put_other i.now b now (x / A) n)
]

pub written_byte : (A : ℕ) (i : Image) (b x : ℕ) (now : List ℕ) → x / A ≡ b → get_or (put i.now b now (x / A)) (x % A) 0 ≡ get_or now (x % A) 0
written_byte A i b x now e = ap (λ (bytes : List ℕ). get_or bytes (x % A) 0) (ap (put i.now b now) e ∙ put_here i.now b now)

-- a byte that isn't written: it lies in another block, or the request doesn't cover it
pub unwritten : (A : ℕ) (c : Client) (b x : ℕ) → writes c ≡ true → writes_in A c b x ≡ false → x / A ≡ b → covers c x ≡ false
unwritten A c b x writing none at = go (writes c) (covers c x) (x / A == b) writing (eq-eqb (x / A) b at) none
  where
    go : (u v t : Bool) → u ≡ true → t ≡ true → u && v && t ≡ false → v ≡ false
    go true true true e f g = absurd (true≢false g)
    go true false t e f g = refl
    go true true false e f g = absurd (true≢false (sym f))
    go false v t e f g = absurd (true≢false (sym e))

-- one row leads from the byte before to the byte after
pub row_leads : (A x r : ℕ) (w : World) (c : Client) (p : Pads) {stage : Stage} (act : Act stage) → 0 < A → IsTrue w.tells → Shaped A c stage →
    Keeps A w.tells w.image c p stage → MayDo A w c p act → Leads (byte_at A w.image x) (byte_at A (imaged A w.image c act) x) (cell_of A x r c act)
row_leads A x r w c p (Loads {b = b} bytes) pos told fit kept may =
    choose (λ es. Leads (byte_at A w.image x) (byte_at A w.image x) es) (reads_in A c b x) _ _
    (λ e. let (_, _, at) = three (reads c) (covers c x) (x / A == b) e in
    leads_read r _ _ (ap (λ (bytes : List ℕ). get_or bytes (x % A) 0) (may.now told ∙ ap w.image.now (sym (same_eqb (x / A) b at)))))
    (λ e. leads_none _ _ refl)
row_leads A x r w c p (Stores {k = k} {b = b} bytes past) pos told fit kept may =
    choose (λ es. Leads (byte_at A w.image x) (get_or (put w.image.now b bytes (x / A)) (x % A) 0) es) (writes_in A c b x) _ _
    (λ e. let (_, covered, at) = three (writes c) (covers c x) (x / A == b) e in
    let here : x / A ≡ b = same_eqb (x / A) b at in
    leads_write r _ _ _ (written_byte A w.image b x bytes here ∙ covered_byte A w.image k c p b x bytes past pos may.0 covered here))
    (λ e. leads_none _ _ (stored_byte A w.image b x bytes
    (λ at. pad_byte A w.tells w.image k c p b x bytes past pos told may.0 fit kept (unwritten A c b x fit.writing e at) at)))
row_leads A x r w c p (StoreFails {k = k} {b = b} bytes true past) pos told fit kept may =
    choose (λ es. Leads (byte_at A w.image x) (get_or (put w.image.now b bytes (x / A)) (x % A) 0) es) (writes_in A c b x) _ _
    (λ e. let (_, covered, at) = three (writes c) (covers c x) (x / A == b) e in
    let here : x / A ≡ b = same_eqb (x / A) b at in
    leads_maybe r _ _ _ true (written_byte A w.image b x bytes here ∙ covered_byte A w.image k c p b x bytes past pos may.0 covered here))
    (λ e. leads_none _ _ (stored_byte A w.image b x bytes
    (λ at. pad_byte A w.tells w.image k c p b x bytes past pos told may.0 fit kept (unwritten A c b x fit.writing e at) at)))
row_leads A x r w c p (StoreFails {k = k} {b = b} bytes false past) pos told fit kept may =
    let same : get_or (put w.image.now b (w.image.now b) (x / A)) (x % A) 0 ≡ byte_at A w.image x =
    stored_byte A w.image b x (w.image.now b) (λ at. ap (λ (n : ℕ). get_or (w.image.now n) (x % A) 0) (sym at)) in
    choose (λ es. Leads (byte_at A w.image x) (get_or (put w.image.now b (w.image.now b) (x / A)) (x % A) 0) es) (writes_in A c b x) _ _
    (λ e. leads_maybe r _ _ _ false same)
    (λ e. leads_none _ _ same)
row_leads A x r w c p _ pos told fit kept may = leads_none _ _ refl

pub step_leads : (A x : ℕ) (w : World) (e : Element) → 0 < A → IsTrue w.tells → Ok A w → CanCome A w e →
    Leads (byte_at A w.image x) (byte_at A (happens A w e).image x) (cell_at A x e)
step_leads A x w (Did r q act) pos told ok may =
    row_leads A x r w q.client q.pads act pos told (ok.well r q may.0).shaped (ok.well r q may.0).kept may.1
step_leads A x w (Crashed left) pos told ok may =
    record { legal = legal_cons _ (Crash (get_or (left (x / A)) (x % A) 0)) [] refl (legal_none _); leaves = refl }
step_leads A x w _ pos told ok may = leads_none _ _ refl

pub still_tells : (A : ℕ) (w : World) (e : Element) → (happens A w e).tells ≡ w.tells
still_tells A w (Attached s name e) = refl
still_tells A w (NoExport s name) = refl
still_tells A w (Crowded s name) = refl
still_tells A w (Left s e) = refl
still_tells A w (Detached s e) = refl
still_tells A w (NotAttached s e) = refl
still_tells A w (Asked r c) = refl
still_tells A w (Did r q act) = refl
still_tells A w (Exported op e) = refl
still_tells A w (Planned j fail) = refl
still_tells A w (Crashed left) = refl

pub told_still : (A : ℕ) (w : World) (e : Element) → IsTrue w.tells → IsTrue (happens A w e).tells
told_still A w e told = subst (λ (t : Bool). IsTrue t) (sym (still_tells A w e)) told

pub told_run : (A : ℕ) (w : World) (es : List Element) → IsTrue w.tells → IsTrue (world_after A w es).tells
told_run A w [] told = told
told_run A w (e ∷ es) told = told_run A (happens A w e) es (told_still A w e told)

pub run_leads : (A x : ℕ) (w : World) (es : List Element) → 0 < A → IsTrue w.tells → Ok A w → Runs A w es →
    Leads (byte_at A w.image x) (byte_at A (world_after A w es).image x) (cell A x es)
run_leads A x w [] pos told ok run = leads_none _ _ refl
run_leads A x w (e ∷ es) pos told ok run =
    let here : Leads (byte_at A w.image x) (byte_at A (happens A w e).image x) (cell_at A x e) = step_leads A x w e pos told ok run.0 in
    let rest : Leads (byte_at A (happens A w e).image x) (byte_at A (world_after A (happens A w e) es).image x) (cell A x es) =
    run_leads A x (happens A w e) es pos (told_still A w e told) (step_ok A w e pos ok run.0) run.1 in
    let from : byte_at A (happens A w e).image x ≡ value_after (byte_at A w.image x) (cell_at A x e) = here.leaves in
    record {
      legal = legal_append (byte_at A w.image x) (cell_at A x e) (cell A x es) here.legal (subst (λ (v : ℕ). Legal v (cell A x es)) from rest.legal);
      leaves = rest.leaves ∙ ap (λ (v : ℕ). value_after v (cell A x es)) from ∙ sym (value_append (byte_at A w.image x) (cell_at A x e) (cell A x es));
    }

-- an entry that changes the byte is a store's by a write that covers it
pub row_still : (A x r v : ℕ) (c : Client) {stage : Stage} (act : Act stage) → (IsStoreOf A x c act → ⊥) → value_after v (cell_of A x r c act) ≡ v
row_still A x r v c (Loads {b = b} bytes) none = choose (λ es. value_after v es ≡ v) (reads_in A c b x) _ _ (λ e. refl) (λ e. refl)
row_still A x r v c (Stores {b = b} bytes past) none = choose (λ es. value_after v es ≡ v) (writes_in A c b x) _ _ (λ e. absurd (none e)) (λ e. refl)
row_still A x r v c (StoreFails {b = b} bytes took past) none = choose (λ es. value_after v es ≡ v) (writes_in A c b x) _ _ (λ e. absurd (none e)) (λ e. refl)
row_still A x r v c _ none = refl

pub step_still : (A x v : ℕ) (e : Element) → (Alters A x e → ⊥) → value_after v (cell_at A x e) ≡ v
step_still A x v (Did r q act) none = row_still A x r v q.client act none
step_still A x v (Crashed left) none = absurd (none tt)
step_still A x v _ none = refl

-- the laws
pub histories : (A : ℕ) (w : World) (es : List Element) → 0 < A → IsTrue w.tells → Ok A w → Runs A w es → Histories A w es
histories A w es pos told ok run x = (run_leads A x w es pos told ok run).legal

pub covered : (A : ℕ) (w : World) (es : List Element) → 0 < A → IsTrue w.tells → Ok A w → Runs A w es → Covered A w es
covered A w es pos told ok run = record {
  now = λ x before at. (run_leads A x w before pos told ok (front_run A w es before run at)).leaves;
  still = λ x before e at none.
      let (front, may) = split_run A w es before e run at in
      ap (λ (v : World). byte_at A v.image x) (after_append A w before (e ∷ []))
      ∙ (step_leads A x (world_after A w before) e pos (told_run A w before told) (run_ok A w before pos ok front) may).leaves
      ∙ step_still A x _ e none;
}
