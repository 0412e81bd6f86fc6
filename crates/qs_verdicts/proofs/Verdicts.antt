-- The laws of answers, and of a request's own steps and bytes.
use Rattle.std.proofs.Common.{◌≡◌, ◌≢◌, ◌↔◌, ℕ, ◌<◌, ◌⊎◌, inl, inr, Bool, true, false, ◌&&◌, ◌==◌, ◌/◌, ◌-◌, cond, get_or, List, [], ◌∷◌, Some, None, refl, sym, ap, ◌∙◌, subst, true≢false}
use Rattle.qs_bytes.specs.declared.ask.Verdict.{Verdict}
use Rattle.qs_bytes.specs.declared.ask.Verdict.TheVariants.{Fine, Refused, Dropped}
use Rattle.qs_bytes.specs.declared.ask.Kind.TheVariants.{Flush}
use Rattle.qs_bytes.specs.declared.ask.Errno.TheVariants.{Io}
use Rattle.qs_cells.specs.declared.cell.CellEntry.TheVariants.{Read, Write, Maybe}
use Rattle.qs_model.specs.Requests.{Client, Req, Stage, brings_bytes, covers, body_at, span_of, writes, verdict}
use Rattle.qs_model.specs.Worlds.{World}
use Rattle.qs_model.specs.Acts.{Act, Answers, Waits, Enters, Routes, Shuts, Lists, Starts, Loads, LoadFails, Holds, HoldFails, Stores, StoreFails, Syncs, Cleans, SyncFails, Frees, Ends, Element, Attached, NoExport, Crowded, Left, Detached, NotAttached, Asked, Did, Exported, Planned, Crashed}
use Rattle.qs_model.specs.Histories.{answer_of, cell_at, cell_of, reads_in, writes_in}
use Rattle.qs_model.specs.Laws.{Begins, ComesBehind}
use Rattle.qs_model.specs.Steps.{Runs}
use Rattle.qs_model.proofs.Facts.{Ok}
use Rattle.qs_model.proofs.Holders.{some_none}
use Rattle.qs_model.proofs.Kept.{split_run}
use Rattle.qs_verdicts.specs.Stories.{Story, HasStory, sent}
use Rattle.qs_verdicts.specs.Verdicts.{AreStripes, IsByTable, IsEarly, IsOwnByte, IsSyncRow, MayWork, Own, OwnBytes, Verdicts, done, is_forced, verdict_by_way, verdict_of}
use Rattle.qs_verdicts.proofs.Lines.{Passed, io_fault, never_dropped, work_end}
use Rattle.qs_verdicts.proofs.Stories.{Told, all_told}
use Rattle.qs_verdicts.proofs.TableKinds.{room_is}
use Rattle.qs_verdicts.proofs.Telling.{IsEnding, IsSteady, Stands, dropped_fine, syncs_own}

begins_of : (before : List Element) (e : Element) (es : List Element) → ComesBehind before e es → Begins before es
begins_of before e es at = (e ∷ at.0, at.1)

some_one : (u v : Verdict) → Some u ≡ Some v → u ≡ v
some_one u v e = cc

-- whether a session has left
here_or_left : (n : Story) → (n.left ≡ true) ⊎ (n.left ≡ false)
here_or_left n = go n.left
  where
    go : (b : Bool) → (b ≡ true) ⊎ (b ≡ false)
    go true = inl refl
    go false = inr refl

-- the line, where the session has left, and where it hasn't
line_left : (n : Story) → n.left ≡ true → verdict_of n ≡ Some Dropped
line_left n h = ap (λ (b : Bool). cond b (Some Dropped) (verdict_by_way n.client.ask n.client.buffered n.way n.fault n.got)) h

line_here : (n : Story) → n.left ≡ false → verdict_of n ≡ verdict_by_way n.client.ask n.client.buffered n.way n.fault n.got
line_here n h = ap (λ (b : Bool). cond b (Some Dropped) (verdict_by_way n.client.ask n.client.buffered n.way n.fault n.got)) h

-- what follows from the line alone
line_dropped : (n : Story) (v : Verdict) → verdict_of n ≡ Some v → (v ≡ Dropped) ↔ (n.left ≡ true)
line_dropped n v line = (
  λ is. elim (here_or_left n) [
    | inl h ↦ h
    | inr h ↦ absurd (never_dropped n.client.ask n.client.buffered n.way n.fault n.got (sym (line_here n h) ∙ line ∙ ap Some is))
  ],
  λ h. some_one v Dropped (sym line ∙ line_left n h),
)

line_io : (n : Story) (v : Verdict) → verdict_of n ≡ Some v → n.left ≡ false → v ≡ Refused Io → n.fault ≡ true
line_io n v line here is = io_fault n.client.ask n.client.buffered n.way n.fault n.got (sym (line_here n here) ∙ line ∙ ap Some is)

-- what a request that worked has for its answer
passed_line : (n : Story) (v : Verdict) → verdict_of n ≡ Some v → n.left ≡ false → Passed n → v ≡ cond n.fault (Refused Io) (done n.client.ask n.got)
passed_line n v line here passed = some_one v _ (sym line ∙ line_here n here ∙ passed n.fault n.got)

-- what a request has done when it is answered
record HasRun (A : ℕ) (n : Story) (v : Verdict) : Type 0 where
  course : n.listed ≡ true → (n.fault ≡ true) ⊎ ((n.ended ≡ true) × (is_forced n.client.ask ≡ true → AreStripes A (sent n) n.synced))
  flushed : n.client.ask.kind ≡ Flush → v ≡ Fine → n.synced ≡ 0 ∷ 1 ∷ 2 ∷ 3 ∷ 4 ∷ 5 ∷ 6 ∷ 7 ∷ []
  forced : is_forced n.client.ask ≡ true → v ≡ Fine → AreStripes A (sent n) n.synced

-- an answer by the table, from the line and what is told
by_table : (A : ℕ) (n : Story) (v : Verdict) → verdict_of n ≡ Some v → IsSteady n → HasRun A n v → IsByTable A n v
by_table A n v line steady run = record {
  line = line;
  io = λ here. (
    λ is. line_io n v line here is,
    λ fault. passed_line n v line here (steady.worked (steady.fault fault)) ∙ ap (λ (b : Bool). cond b (Refused Io) (done n.client.ask n.got)) fault,
  );
  dropped = line_dropped n v line;
  idle = λ worked. elim (here_or_left n) [
    | inl h ↦ subst MayWork (sym ((line_dropped n v line).1 h)) tt
    | inr h ↦ subst MayWork (sym (passed_line n v line h (steady.worked worked))) (work_end n.client.ask n.fault n.got)
  ];
  course = run.course;
  flushed = run.flushed;
  forced = run.forced;
  unsynced = steady.unsynced;
}

-- an answer that was fixed at once, or by the request's end
at_once : (A : ℕ) (n : Story) (v : Verdict) → n.listed ≡ false → v ≢ Fine → HasRun A n v
at_once A n v listed bad = record {
  course = λ h. absurd (true≢false (sym h ∙ listed));
  flushed = λ _ fine. absurd (bad fine);
  forced = λ _ fine. absurd (bad fine);
}

by_end : (A : ℕ) (n : Story) (d : Bool) (u v : Verdict) → IsEnding A n u → verdict d u ≡ v → HasRun A n v
by_end A n d u v at is = record {
  course = at.course;
  flushed = λ flush fine. at.flushed flush (was_fine d u (is ∙ fine));
  forced = λ forced fine. at.forced forced (was_fine d u (is ∙ fine));
}
  where
    was_fine : (d : Bool) (u : Verdict) → verdict d u ≡ Fine → u ≡ Fine
    was_fine true u e = absurd (dropped_fine e)
    was_fine false u e = e

-- the answer of a row
answer_table : (A r : ℕ) (n : Story) (d : Bool) {stage : Stage} (act : Act stage) (v : Verdict) → answer_of d act ≡ Some v → d ≡ n.left → Stands A n stage → IsSteady n → IsByTable A n v
answer_table A r n d (Answers {v = u}) v is same at steady =
    by_table A n v (at.0 ∙ is) steady (at_once A n v at.2 (λ fine. at.4 (some_one u v is ∙ fine)))
answer_table A r n d (Ends {v = u}) v is same at steady = by_table A n v (line ∙ is) steady (by_end A n d u v at (some_one (verdict d u) v is))
  where
    line : verdict_of n ≡ Some (verdict d u)
    line = elim (here_or_left n) [
      | inl h ↦ line_left n h ∙ ap (λ (b : Bool). Some (cond b Dropped u)) (sym (same ∙ h))
      | inr h ↦ line_here n h ∙ at.reply h ∙ ap (λ (b : Bool). Some (cond b Dropped u)) (sym (same ∙ h))
    ]
answer_table A r n d (Waits wait) v is same at steady = absurd (some_none (sym is))
answer_table A r n d (Enters k) v is same at steady = absurd (some_none (sym is))
answer_table A r n d (Routes route) v is same at steady = absurd (some_none (sym is))
answer_table A r n d Shuts v is same at steady = absurd (some_none (sym is))
answer_table A r n d (Lists m) v is same at steady = absurd (some_none (sym is))
answer_table A r n d Starts v is same at steady = absurd (some_none (sym is))
answer_table A r n d (Loads bytes) v is same at steady = absurd (some_none (sym is))
answer_table A r n d LoadFails v is same at steady = absurd (some_none (sym is))
answer_table A r n d (Holds bytes) v is same at steady = absurd (some_none (sym is))
answer_table A r n d HoldFails v is same at steady = absurd (some_none (sym is))
answer_table A r n d (Stores bytes past) v is same at steady = absurd (some_none (sym is))
answer_table A r n d (StoreFails bytes took past) v is same at steady = absurd (some_none (sym is))
answer_table A r n d Syncs v is same at steady = absurd (some_none (sym is))
answer_table A r n d Cleans v is same at steady = absurd (some_none (sym is))
answer_table A r n d SyncFails v is same at steady = absurd (some_none (sym is))
answer_table A r n d Frees v is same at steady = absurd (some_none (sym is))

pub verdicts : (A : ℕ) (w : World) (es : List Element) → 0 < A → Ok A w → ((r : ℕ) → w.req r ≡ None) → Runs A w es → Verdicts A es
verdicts A w es pos ok none run r v before (Did s q act) at is =
    let may = (split_run A w es before (Did s q act) run at).1 in
    let t : Told A s before q = all_told A w es before pos ok none run (begins_of before (Did s q act) es at) s q may.0 in
    subst (λ (k : ℕ). HasStory A k before (λ n. IsByTable A n v)) is.0
    (t.story, (t.is, answer_table A s t.story q.dropped act v is.1 t.dropped t.stands t.steady))
verdicts A w es pos ok none run r v before _ at is = absurd is

-- rows of Enter, Route and List are those of a session that is there
early : (A : ℕ) (n : Story) {stage : Stage} (act : Act stage) → Stands A n stage → IsEarly act → n.left ≡ false
early A n (Enters k) at is = at.here
early A n (Routes route) at is = at.here
early A n Shuts at is = at.here
early A n (Lists m) at is = at.here
early A n _ at is = absurd is

-- who syncs
sync_own : (A : ℕ) (n : Story) {stage : Stage} (act : Act stage) → Stands A n stage → IsSyncRow act →
    ((n.client.ask.kind ≡ Flush) × (n.left ≡ false)) ⊎ (is_forced n.client.ask ≡ true)
sync_own A n (Syncs {s = s}) at is = syncs_own A n s at
sync_own A n (Cleans {s = s}) at is = syncs_own A n s at
sync_own A n (SyncFails {s = s}) at is = syncs_own A n s at
sync_own A n _ at is = absurd is

pub own : (A : ℕ) (w : World) (es : List Element) → 0 < A → Ok A w → ((r : ℕ) → w.req r ≡ None) → Runs A w es → Own A es
own A w es pos ok none run before (Did r q act) at =
    let may = (split_run A w es before (Did r q act) run at).1 in
    let t : Told A r before q = all_told A w es before pos ok none run (begins_of before (Did r q act) es at) r q may.0 in
    (t.story, (t.is, record { client = t.client; dropped = t.dropped; asked = t.was_asked; early = early A t.story act t.stands; sync = sync_own A t.story act t.stands }))
own A w es pos ok none run before _ at = tt

-- what a row writes at x
record WritesOwn (s : ℕ) (c : Client) (x r v : ℕ) : Type 0 where
  number : s ≡ r
  writing : writes c ≡ true
  covered : covers c x ≡ true
  byte : v ≡ body_at c x

first_true : (a b c : Bool) → (a && b && c) ≡ true → a ≡ true
first_true true b c h = refl
first_true false b c h = absurd (true≢false (sym h))

second_true : (a b c : Bool) → (a && b && c) ≡ true → b ≡ true
second_true true true c h = refl
second_true true false c h = h
second_true false b c h = absurd (true≢false (sym h))

stored_own : (A x s r v : ℕ) (c : Client) (b : ℕ) → cond (writes_in A c b x) (Write s (body_at c x) ∷ []) [] ≡ Write r v ∷ [] → WritesOwn s c x r v
stored_own A x s r v c b is = go (writes_in A c b x) refl is
  where
    go : (t : Bool) → writes_in A c b x ≡ t → cond t (Write s (body_at c x) ∷ []) [] ≡ Write r v ∷ [] → WritesOwn s c x r v
    go true h e = record { number = cc; writing = first_true (writes c) (covers c x) (x / A == b) h; covered = second_true (writes c) (covers c x) (x / A == b) h; byte = cc }
    go false h e = absurd (cc)

refused_own : (A x s r v : ℕ) (c : Client) (b : ℕ) (took taken : Bool) → cond (writes_in A c b x) (Maybe s (body_at c x) took ∷ []) [] ≡ Maybe r v taken ∷ [] → WritesOwn s c x r v
refused_own A x s r v c b took taken is = go (writes_in A c b x) refl is
  where
    go : (t : Bool) → writes_in A c b x ≡ t → cond t (Maybe s (body_at c x) took ∷ []) [] ≡ Maybe r v taken ∷ [] → WritesOwn s c x r v
    go true h e = record { number = cc; writing = first_true (writes c) (covers c x) (x / A == b) h; covered = second_true (writes c) (covers c x) (x / A == b) h; byte = cc }
    go false h e = absurd (cc)

read_write : (t : Bool) (s u r v : ℕ) → cond t (Read s u ∷ []) [] ≡ Write r v ∷ [] → ⊥
read_write true s u r v e = cc
read_write false s u r v e = cc

read_maybe : (t : Bool) (s u r v : ℕ) (took : Bool) → cond t (Read s u ∷ []) [] ≡ Maybe r v took ∷ [] → ⊥
read_maybe true s u r v took e = cc
read_maybe false s u r v took e = cc

maybe_write : (t : Bool) (s u r v : ℕ) (took : Bool) → cond t (Maybe s u took ∷ []) [] ≡ Write r v ∷ [] → ⊥
maybe_write true s u r v took e = cc
maybe_write false s u r v took e = cc

write_maybe : (t : Bool) (s u r v : ℕ) (took : Bool) → cond t (Write s u ∷ []) [] ≡ Maybe r v took ∷ [] → ⊥
write_maybe true s u r v took e = cc
write_maybe false s u r v took e = cc

nothing_one : {X : Type 0} (x : X) → [] ≡ x ∷ [] → ⊥
nothing_one x e = cc

row_write : (A x s r v : ℕ) (c : Client) {stage : Stage} (act : Act stage) → cell_of A x s c act ≡ Write r v ∷ [] → WritesOwn s c x r v
row_write A x s r v c (Stores {b = b} bytes past) is = stored_own A x s r v c b is
row_write A x s r v c (StoreFails {b = b} bytes took past) is = absurd (maybe_write (writes_in A c b x) s (body_at c x) r v took is)
row_write A x s r v c (Loads {b = b} bytes) is = absurd (read_write (reads_in A c b x) s _ r v is)
row_write A x s r v c Answers is = absurd (nothing_one _ is)
row_write A x s r v c (Waits wait) is = absurd (nothing_one _ is)
row_write A x s r v c (Enters k) is = absurd (nothing_one _ is)
row_write A x s r v c (Routes route) is = absurd (nothing_one _ is)
row_write A x s r v c Shuts is = absurd (nothing_one _ is)
row_write A x s r v c (Lists m) is = absurd (nothing_one _ is)
row_write A x s r v c Starts is = absurd (nothing_one _ is)
row_write A x s r v c LoadFails is = absurd (nothing_one _ is)
row_write A x s r v c (Holds bytes) is = absurd (nothing_one _ is)
row_write A x s r v c HoldFails is = absurd (nothing_one _ is)
row_write A x s r v c Syncs is = absurd (nothing_one _ is)
row_write A x s r v c Cleans is = absurd (nothing_one _ is)
row_write A x s r v c SyncFails is = absurd (nothing_one _ is)
row_write A x s r v c Frees is = absurd (nothing_one _ is)
row_write A x s r v c Ends is = absurd (nothing_one _ is)

row_maybe : (A x s r v : ℕ) (taken : Bool) (c : Client) {stage : Stage} (act : Act stage) → cell_of A x s c act ≡ Maybe r v taken ∷ [] → WritesOwn s c x r v
row_maybe A x s r v taken c (Stores {b = b} bytes past) is = absurd (write_maybe (writes_in A c b x) s (body_at c x) r v taken is)
row_maybe A x s r v taken c (StoreFails {b = b} bytes took past) is = refused_own A x s r v c b took taken is
row_maybe A x s r v taken c (Loads {b = b} bytes) is = absurd (read_maybe (reads_in A c b x) s _ r v taken is)
row_maybe A x s r v taken c Answers is = absurd (nothing_one _ is)
row_maybe A x s r v taken c (Waits wait) is = absurd (nothing_one _ is)
row_maybe A x s r v taken c (Enters k) is = absurd (nothing_one _ is)
row_maybe A x s r v taken c (Routes route) is = absurd (nothing_one _ is)
row_maybe A x s r v taken c Shuts is = absurd (nothing_one _ is)
row_maybe A x s r v taken c (Lists m) is = absurd (nothing_one _ is)
row_maybe A x s r v taken c Starts is = absurd (nothing_one _ is)
row_maybe A x s r v taken c LoadFails is = absurd (nothing_one _ is)
row_maybe A x s r v taken c (Holds bytes) is = absurd (nothing_one _ is)
row_maybe A x s r v taken c HoldFails is = absurd (nothing_one _ is)
row_maybe A x s r v taken c Syncs is = absurd (nothing_one _ is)
row_maybe A x s r v taken c Cleans is = absurd (nothing_one _ is)
row_maybe A x s r v taken c SyncFails is = absurd (nothing_one _ is)
row_maybe A x s r v taken c Frees is = absurd (nothing_one _ is)
row_maybe A x s r v taken c Ends is = absurd (nothing_one _ is)

-- a request that has no bytes has zeros
bare_zero : (c : Client) (x : ℕ) → c.body ≡ [] → body_at c x ≡ 0
bare_zero c x bare = ap (λ (xs : List ℕ). get_or xs (x - (span_of c).lo) 0) bare

own_byte : (A s : ℕ) (q : Req) (before : List Element) (x r v : ℕ) → Told A s before q → WritesOwn s q.client x r v → HasStory A r before (λ n. IsOwnByte n x v)
own_byte A s q before x r v t h =
    let n : Story = t.story in
    let byte : v ≡ body_at (sent n) x = subst (λ (c : Client). v ≡ body_at c x) t.client h.byte in
    subst (λ (k : ℕ). HasStory A k before (λ m. IsOwnByte m x v)) h.number (
      n,
      (
        t.is,
        record {
          room = room_is n.client.ask.kind ∙ subst (λ (c : Client). writes c ≡ true) t.client h.writing;
          covered = subst (λ (c : Client). covers c x ≡ true) t.client h.covered;
          byte = byte;
          zeros = λ is. byte ∙ bare_zero (sent n) x (t.bare (ap brings_bytes is));
        },
      ),
    )

pub own_bytes : (A : ℕ) (w : World) (es : List Element) → 0 < A → Ok A w → ((r : ℕ) → w.req r ≡ None) → Runs A w es → OwnBytes A es
own_bytes A w es pos ok none run = record { write = write; maybe = maybe }
  where
    told_at : (s : ℕ) (q : Req) (act : Act q.stage) (before : List Element) → ComesBehind before (Did s q act) es → Told A s before q
    told_at s q act before at =
        all_told A w es before pos ok none run (begins_of before (Did s q act) es at) s q (split_run A w es before (Did s q act) run at).1.0

    write : (x r v : ℕ) (before : List Element) (e : Element) → ComesBehind before e es → cell_at A x e ≡ Write r v ∷ [] → HasStory A r before (λ n. IsOwnByte n x v)
    write x r v before (Did s q act) at is = own_byte A s q before x r v (told_at s q act before at) (row_write A x s r v q.client act is)
    write x r v before (Crashed left) at is = absurd (cc)
    write x r v before (Attached s name info) at is = absurd (nothing_one _ is)
    write x r v before (NoExport s name) at is = absurd (nothing_one _ is)
    write x r v before (Crowded s name) at is = absurd (nothing_one _ is)
    write x r v before (Left s e) at is = absurd (nothing_one _ is)
    write x r v before (Detached s e) at is = absurd (nothing_one _ is)
    write x r v before (NotAttached s e) at is = absurd (nothing_one _ is)
    write x r v before (Asked s c) at is = absurd (nothing_one _ is)
    write x r v before (Exported op e) at is = absurd (nothing_one _ is)
    write x r v before (Planned j fail) at is = absurd (nothing_one _ is)

    maybe : (x r v : ℕ) (took : Bool) (before : List Element) (e : Element) → ComesBehind before e es → cell_at A x e ≡ Maybe r v took ∷ [] → HasStory A r before (λ n. IsOwnByte n x v)
    maybe x r v took before (Did s q act) at is = own_byte A s q before x r v (told_at s q act before at) (row_maybe A x s r v took q.client act is)
    maybe x r v took before (Crashed left) at is = absurd (cc)
    maybe x r v took before (Attached s name info) at is = absurd (nothing_one _ is)
    maybe x r v took before (NoExport s name) at is = absurd (nothing_one _ is)
    maybe x r v took before (Crowded s name) at is = absurd (nothing_one _ is)
    maybe x r v took before (Left s e) at is = absurd (nothing_one _ is)
    maybe x r v took before (Detached s e) at is = absurd (nothing_one _ is)
    maybe x r v took before (NotAttached s e) at is = absurd (nothing_one _ is)
    maybe x r v took before (Asked s c) at is = absurd (nothing_one _ is)
    maybe x r v took before (Exported op e) at is = absurd (nothing_one _ is)
    maybe x r v took before (Planned j fail) at is = absurd (nothing_one _ is)
