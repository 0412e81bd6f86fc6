-- A read stands behind all that its session had seen when it asked.
use Rattle.std.proofs.Common.{◌≡◌, ℕ, inl, inr, Bool, true, false, cond, List, [], ◌∷◌, ◌++◌, ap, ◌∙◌, append_assoc}
use Rattle.qs_cells.specs.declared.cell.CellEntry.{CellEntry}
use Rattle.qs_cells.specs.declared.cell.CellEntry.TheVariants.{Read, Write, Maybe, Crash}
use Rattle.qs_model.specs.Requests.{Client, Stage}
use Rattle.qs_model.specs.Acts.{Act, Answers, Waits, Enters, Routes, Shuts, Lists, Starts, Loads, LoadFails, Holds, HoldFails, Stores, StoreFails, Syncs, Cleans, SyncFails, Frees, Ends, Element, Attached, NoExport, Crowded, Left, Detached, NotAttached, Asked, Did, Exported, Planned, Crashed}
use Rattle.qs_model.specs.Histories.{Acts, cell_of, reads_in, writes_in}
use Rattle.qs_model.specs.Laws.{Between, ComesBehind, IsRead, NoneOlder, WasAsked}

-- the step that made a request
pub record WasMade (r : ℕ) (steps : List Element) : Type 0 where
  pub made : List Element
  pub client : Client
  pub asked : ComesBehind made (Asked r client) steps

pub was_made : (r : ℕ) (steps : List Element) → WasAsked r steps → WasMade r steps
was_made r [] h = absurd h
was_made r (Asked s c ∷ es) (inl e) = record { made = []; client = c; asked = (es, ap (λ (n : ℕ). Asked n c ∷ es) e) }
was_made r (Attached s name info ∷ es) (inl e) = absurd e
was_made r (NoExport s name ∷ es) (inl e) = absurd e
was_made r (Crowded s name ∷ es) (inl e) = absurd e
was_made r (Left s d ∷ es) (inl e) = absurd e
was_made r (Detached s d ∷ es) (inl e) = absurd e
was_made r (NotAttached s d ∷ es) (inl e) = absurd e
was_made r (Did s q act ∷ es) (inl e) = absurd e
was_made r (Exported op d ∷ es) (inl e) = absurd e
was_made r (Planned j fail ∷ es) (inl e) = absurd e
was_made r (Crashed left ∷ es) (inl e) = absurd e
was_made r (x ∷ es) (inr h) =
    let m : WasMade r es = was_made r es h in
    record { made = x ∷ m.made; client = m.client; asked = (m.asked.0, ap (λ (xs : List Element). x ∷ xs) m.asked.1) }

-- what stands in a front of a list stands in the list
pub follows_on : (front : List Element) (e : Element) (made : List Element) (d : Element) (steps : List Element) → ComesBehind front e made → ComesBehind made d steps → ComesBehind front e steps
follows_on front e made d steps inner outer =
    (inner.0 ++ d ∷ outer.0, outer.1 ∙ ap (λ (xs : List Element). xs ++ d ∷ outer.0) inner.1 ∙ append_assoc front (e ∷ inner.0) (d ∷ outer.0))

-- the number in an entry is the request's
abbrev number_of : List CellEntry → ℕ → ℕ
number_of [] n = n
number_of (Read r v ∷ es) n = r
number_of (e ∷ es) n = n

read_number : (b : Bool) (s u r v : ℕ) → cond b (Read s u ∷ []) [] ≡ Read r v ∷ [] → s ≡ r
read_number true s u r v is = ap (λ (es : List CellEntry). number_of es s) is
read_number false s u r v is = absurd (cc)

write_never : (b : Bool) (s u r v : ℕ) → cond b (Write s u ∷ []) [] ≡ Read r v ∷ [] → ⊥
write_never true s u r v is = cc
write_never false s u r v is = cc

maybe_never : (b : Bool) (s u r v : ℕ) (took : Bool) → cond b (Maybe s u took ∷ []) [] ≡ Read r v ∷ [] → ⊥
maybe_never true s u r v took is = cc
maybe_never false s u r v took is = cc

nothing_never : (r v : ℕ) → [] ≡ Read r v ∷ [] → ⊥
nothing_never r v is = cc

row_number : (A x s r v : ℕ) (c : Client) {stage : Stage} (act : Act stage) → cell_of A x s c act ≡ Read r v ∷ [] → s ≡ r
row_number A x s r v c (Loads {b = b} bytes) is = read_number (reads_in A c b x) s _ r v is
row_number A x s r v c (Stores {b = b} bytes past) is = absurd (write_never (writes_in A c b x) s _ r v is)
row_number A x s r v c (StoreFails {b = b} bytes took past) is = absurd (maybe_never (writes_in A c b x) s _ r v took is)
row_number A x s r v c Answers is = absurd (nothing_never r v is)
row_number A x s r v c (Waits wait) is = absurd (nothing_never r v is)
row_number A x s r v c (Enters k) is = absurd (nothing_never r v is)
row_number A x s r v c (Routes route) is = absurd (nothing_never r v is)
row_number A x s r v c Shuts is = absurd (nothing_never r v is)
row_number A x s r v c (Lists m) is = absurd (nothing_never r v is)
row_number A x s r v c Starts is = absurd (nothing_never r v is)
row_number A x s r v c LoadFails is = absurd (nothing_never r v is)
row_number A x s r v c (Holds bytes) is = absurd (nothing_never r v is)
row_number A x s r v c HoldFails is = absurd (nothing_never r v is)
row_number A x s r v c Syncs is = absurd (nothing_never r v is)
row_number A x s r v c Cleans is = absurd (nothing_never r v is)
row_number A x s r v c SyncFails is = absurd (nothing_never r v is)
row_number A x s r v c Frees is = absurd (nothing_never r v is)
row_number A x s r v c Ends is = absurd (nothing_never r v is)

crash_never : (u r v : ℕ) → Crash u ∷ [] ≡ Read r v ∷ [] → ⊥
crash_never u r v is = cc

-- a read of a request is one of its steps
read_acts : (A x r : ℕ) (e : Element) → IsRead A x r e → Acts r e
read_acts A x r (Did s q act) h = row_number A x s r h.0 q.client act h.1
read_acts A x r (Crashed left) h = absurd (crash_never _ r h.0 h.1)
read_acts A x r (Attached s name info) h = absurd (nothing_never r h.0 h.1)
read_acts A x r (NoExport s name) h = absurd (nothing_never r h.0 h.1)
read_acts A x r (Crowded s name) h = absurd (nothing_never r h.0 h.1)
read_acts A x r (Left s d) h = absurd (nothing_never r h.0 h.1)
read_acts A x r (Detached s d) h = absurd (nothing_never r h.0 h.1)
read_acts A x r (NotAttached s d) h = absurd (nothing_never r h.0 h.1)
read_acts A x r (Asked s c) h = absurd (nothing_never r h.0 h.1)
read_acts A x r (Exported op d) h = absurd (nothing_never r h.0 h.1)
read_acts A x r (Planned j fail) h = absurd (nothing_never r h.0 h.1)

pub none_older : (A : ℕ) (es : List Element) → Between es → NoneOlder A es
none_older A es between x r before e at read =
    let m : WasMade r before = was_made r before (between.within r before e at (read_acts A x r e read)).0 in
    record { made = m.made; client = m.client; asked = m.asked; seen = λ front d seen. follows_on front d m.made (Asked r m.client) before seen.stands m.asked }
