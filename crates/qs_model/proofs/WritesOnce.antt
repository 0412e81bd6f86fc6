-- A READ that is Got has read each byte once, a write that is Fine has written each once.
use Rattle.std.proofs.Common.{◌≡◌, ℕ, ◌+◌, ◌/◌, ◌<◌, ◌≤◌, Bool, true, false, not, ◌&&◌, ◌||◌, ◌==◌, inl, inr, ◌∙◌, cond, nat_lt, List, [], ◌∷◌, ◌++◌, Some, None, refl, sym, ap, subst, arith, true≢false, eq-eqb}
use Rattle.std.specs.List.{filter}
use Rattle.qs_cells.specs.declared.cell.CellEntry.{CellEntry}
use Rattle.qs_cells.specs.declared.cell.CellEntry.TheVariants.{Write}
use Rattle.qs_bytes.specs.declared.ask.Verdict.{Verdict}
use Rattle.qs_bytes.specs.declared.ask.Verdict.TheVariants.{Got, Fine, Refused, Dropped}
use Rattle.qs_part.specs.declared.stripe.Side.{Side}
use Rattle.qs_part.specs.declared.stripe.Side.TheVariants.{Head, Tail}
use Rattle.qs_model.specs.Requests.{Client, Pads, Req, Step, Stage, ToRoute, ToList, ToStart, ToHold, ToStore, ToSync, ToEnd, Entering, In, edge, has, span_of, covers, reads, writes, wants_writable, is_flush, is_trim, body_at, new_request, form_error, routed, held, started, loaded, stored, hold_failed, store_failed, synced}
use Rattle.qs_model.specs.Worlds.{World}
use Rattle.qs_model.specs.Acts.{Act, Answers, Waits, Enters, Routes, Shuts, Lists, Starts, Loads, LoadFails, Holds, HoldFails, Stores, StoreFails, Syncs, Cleans, SyncFails, Frees, Ends, Element}
use Rattle.qs_model.specs.Guards.{MayDo}
use Rattle.qs_model.specs.Steps.{moved, world_after, Runs}
use Rattle.qs_model.specs.Histories.{cell_of, is_entry_of, answer_of}
use Rattle.qs_model.specs.Laws.{WritesOnce}
use Rattle.qs_model.proofs.Basics.{choose, either}
use Rattle.qs_model.proofs.RequestKinds.{other_one, stores_no_flush, stores_no_trim}
use Rattle.qs_model.proofs.Syncing.{stored_is, synced_is}
use Rattle.qs_model.proofs.Geometry.{Reaches, covers_low, covers_high, same_eqb}
use Rattle.qs_model.proofs.Facts.{Shaped, IsBad, Storing, Ok}
use Rattle.qs_model.proofs.Holders.{HasMoved, some_none}
use Rattle.qs_model.proofs.Kept.{run_ok, split_run}
use Rattle.qs_model.proofs.Walk.{Plan, due_run}
use Rattle.qs_model.proofs.Once.{rest_of, join, join_last, place_reached, from_first, entry_here}
use Rattle.qs_model.proofs.ReadsOnce.{answered_at}

module _ (A : ℕ) (x : ℕ) (r : ℕ) (c : Client) (pos : 0 < A) (writing : writes c ≡ true) (covered : covers c x ≡ true) where
  -- the one entry of a WRITE
  abbrev pub all_write : List CellEntry
  all_write = Write r (body_at c x) ∷ []

  abbrev pub stage_write : Client → Stage → List CellEntry → Type 0
  stage_write c' Entering es = es ≡ all_write
  stage_write c' (In k ToRoute) es = es ≡ all_write
  stage_write c' (In k ToList) es = es ≡ all_write
  stage_write c' (In k ToStart) es = es ≡ all_write
  stage_write c' (In k (ToHold side)) es = es ≡ all_write
  stage_write c' (In k (ToStore b)) es = (c' ≡ c) × (es ≡ rest_of (x / A) b all_write)
  stage_write c' (In k (ToSync s)) es = (c' ≡ c) × (es ≡ [])
  stage_write c' (In k (ToEnd v)) es = (c' ≡ c) × (v ≡ Fine) × (es ≡ [])
  stage_write c' _ es = ⊥

  -- what a WRITE that is to be Fine still writes
  abbrev pub due_write : Req → List CellEntry → Type 0
  due_write q es = (q.dropped ≡ false) × stage_write q.client q.stage es

  pub some_write : (d : Client) → d ≡ c → (d.ask.length == 0) ≡ true → ⊥
  some_write d same none =
      let low : (span_of c).lo ≤ x = covers_low c x covered in
      let high : x < (span_of c).hi = covers_high c x covered in
      let zero : d.ask.length ≡ 0 = same_eqb d.ask.length 0 none in
      let zero' : c.ask.length ≡ 0 = subst (λ (y : Client). y.ask.length ≡ 0) same zero in
      omega arith

  writes_too : (d : Client) → d ≡ c → writes d ≡ true
  writes_too d same = ap (λ (y : Client). writes y) same ∙ writing

  pub routed_write : (d : Client) (k : ℕ) (es : List CellEntry) → stage_write d (In k (routed d)) es → es ≡ all_write
  unfolding routed
  routed_write d k es =
      let P : Step → Type 0 = λ g. stage_write d (In k g) es → es ≡ all_write in
      choose P (wants_writable d.ask.kind && not d.route.writable) _ _ (λ e h. let f : Refused _ ≡ Fine = h.1 in absurd (cc))
      (λ may. choose P (is_flush d.ask.kind) _ _ (λ e h. absurd (true≢false (sym e ∙ stores_no_flush d.ask.kind (writes_too d h.0))))
      (λ sync. choose P (nat_lt d.route.size (d.ask.offset + d.ask.length)) _ _ (λ e h. let f : Refused _ ≡ Fine = h.1 in absurd (cc))
      (λ in_size. choose P (d.ask.length == 0 || is_trim d.ask.kind) _ _ (λ e h. elim (either (d.ask.length == 0)) [
        | inl none ↦ absurd (some_write d h.0 none)
        | inr some ↦ absurd (true≢false (sym (other_one _ _ e some) ∙ stores_no_trim d.ask.kind (writes_too d h.0)))
      ]) (λ e h. h))))

  pub first_write : (d : Client) (es : List CellEntry) → d ≡ c → es ≡ rest_of (x / A) (edge A d Head) all_write → es ≡ all_write
  first_write d es same h = from_first A d x all_write es pos (subst (λ (y : Client). covers y x ≡ true) (sym same) covered) h

  pub held_write : (d : Client) (k : ℕ) (side : Side) (es : List CellEntry) → stage_write d (In k (held A d side)) es → es ≡ all_write
  unfolding held
  held_write d k Head es = choose (λ g. stage_write d (In k g) es → es ≡ all_write) (has A d Tail) _ _ (λ e h. h) (λ e h. first_write d es h.0 h.1)
  held_write d k Tail es = λ h. first_write d es h.0 h.1

  pub started_write : (d : Client) (k : ℕ) (es : List CellEntry) → stage_write d (In k (started A d)) es → es ≡ all_write
  unfolding started
  started_write d k es =
      let P : Step → Type 0 = λ g. stage_write d (In k g) es → es ≡ all_write in
      choose P (reads d) _ _ (λ e h. absurd h)
      (λ e. choose P (has A d Head) _ _ (λ f h. h) (λ f h. held_write d k Head es h))

  pub loaded_write : (d : Client) (k b : ℕ) (got block : List ℕ) (es : List CellEntry) → stage_write d (In k (loaded A d b got block)) es → ⊥
  unfolding loaded
  loaded_write d k b got block es =
      choose (λ g. stage_write d (In k g) es → ⊥) (b == edge A d Tail) _ _ (λ e h. let f : Got _ ≡ Fine = h.1 in cc) (λ e h. h)

  pub hold_failed_write : (d : Client) (k : ℕ) (side : Side) (es : List CellEntry) → stage_write d (In k (hold_failed A d side)) es → ⊥
  unfolding hold_failed
  hold_failed_write d k Head es = λ h. let f : Refused _ ≡ Fine = h.1 in cc
  hold_failed_write d k Tail es = choose (λ g. stage_write d (In k g) es → ⊥) (has A d Head) _ _ (λ e h. h) (λ e h. let f : Refused _ ≡ Fine = h.1 in cc)

  pub stored_write : (d : Client) (k b : ℕ) (block : List ℕ) (past : List (List ℕ)) (es : List CellEntry) → Storing A d b → stage_write d (In k (stored A d b)) es →
      stage_write d (In k (ToStore b)) (filter (is_entry_of r) (cell_of A x r d (Stores {k = k} {b = b} block past)) ++ es)
  stored_write d k b block past es s =
      let P : Step → Type 0 = λ g. stage_write d (In k g) es → stage_write d (In k (ToStore b)) (filter (is_entry_of r) (cell_of A x r d (Stores {k = k} {b = b} block past)) ++ es) in
      stored_is P A d b (λ e h. final e h.0 h.2) (λ e s lt h. final e h.0 h.1)
      (λ e h. (h.0, join (x / A) b _ all_write es (entry h.0) h.1))
    where
      own : d ≡ c → covers d x ≡ true
      own same = subst (λ (y : Client). covers y x ≡ true) (sym same) covered

      entry : d ≡ c → filter (is_entry_of r) (cell_of A x r d (Stores {k = k} {b = b} block past)) ≡ cond (x / A == b) all_write []
      entry same =
          entry_here r _ _ (writes d) (covers d x) (x / A == b) s.writing (own same) (eq-eqb r r refl)
          (λ e. ap (λ (y : Client). Write r (body_at y x)) same)

      final : (b == edge A d Tail) ≡ true → d ≡ c → es ≡ [] →
          stage_write d (In k (ToStore b)) (filter (is_entry_of r) (cell_of A x r d (Stores {k = k} {b = b} block past)) ++ es)
      final e same none =
          let at : b ≡ edge A d Tail = same_eqb b (edge A d Tail) e in
          let reach : Reaches A d (x / A) = place_reached A d x pos (own same) in
          let le : x / A ≤ edge A d Tail = reach.last in
          (same, join (x / A) b _ all_write es (entry same) (join_last (x / A) b all_write es (omega arith) none))

  pub store_failed_write : (d : Client) (k b : ℕ) (es : List CellEntry) → stage_write d (In k (store_failed A d b)) es → ⊥
  unfolding store_failed
  store_failed_write d k b es =
      choose (λ g. stage_write d (In k g) es → ⊥) (has A d Tail && not (b == edge A d Tail)) _ _ (λ e h. h) (λ e h. let f : Refused _ ≡ Fine = h.1 in cc)

  pub synced_write : (d : Client) (k s : ℕ) (es : List CellEntry) → stage_write d (In k (synced A d s)) es → stage_write d (In k (ToSync s)) es
  synced_write d k s es = synced_is (λ g. stage_write d (In k g) es → stage_write d (In k (ToSync s)) es) A d s (λ h. (h.0, h.2)) (λ t lt h. h)

  pub own_write : (w : World) (d : Client) (b : Bool) (p : Pads) {stage : Stage} (act : Act stage) (es : List CellEntry) → Shaped A d stage → MayDo A w d p act →
      HasMoved (λ q. due_write q es) (moved A d b p act) →
      due_write (record { client = d; dropped = b; pads = p; stage = stage }) (filter (is_entry_of r) (cell_of A x r d act) ++ es)
  own_write w d b p Answers es fit may h = absurd h
  own_write w d b p (Waits wait) es fit may h = h
  own_write w d b p (Enters k) es fit may h = h
  own_write w d b p (Routes {k = k} route) es fit may h = (h.0, routed_write (record d { route = route }) k es h.1)
  own_write w d b p Shuts es fit may h = let f : Refused _ ≡ Fine = h.1.1 in absurd (cc)
  own_write w d b p (Lists n) es fit may h = h
  own_write w d b p (Starts {k = k}) es fit may h = (h.0, started_write d k es h.1)
  own_write w d b p (Loads {k = k} {b = n} {got = got} block) es fit may h = absurd (loaded_write d k n got block es h.1)
  own_write w d b p LoadFails es fit may h = let f : Refused _ ≡ Fine = h.1.1 in absurd (cc)
  own_write w d b p (Holds {k = k} {side = side} block) es fit may h = (h.0, held_write d k side es h.1)
  own_write w d b p (HoldFails {k = k} {side = side}) es fit may h = absurd (hold_failed_write d k side es h.1)
  own_write w d b p (Stores {k = k} {b = n} block past) es fit may h = (h.0, stored_write d k n block past es fit h.1)
  own_write w d b p (StoreFails {k = k} {b = n} block took past) es fit may h = absurd (store_failed_write d k n es h.1)
  own_write w d b p (Syncs {k = k} {s = s}) es fit may h = (h.0, synced_write d k s es h.1)
  own_write w d b p (Cleans {k = k} {s = s}) es fit may h = (h.0, synced_write d k s es h.1)
  own_write w d b p SyncFails es fit may h = let f : Refused _ ≡ Fine = h.1.1 in absurd (cc)
  own_write w d b p Frees es fit may h = let f : Refused _ ≡ Fine = h.1.1 in absurd (cc)
  own_write w d b p Ends es fit may h = absurd h

  pub made_write : (d : Client) (es : List CellEntry) → due_write (new_request d) es → es ≡ all_write
  made_write d es h = go h.1
    where
      go : stage_write d (new_request d).stage es → es ≡ all_write
      go =
          let P : Stage → Type 0 = λ g. stage_write d g es → es ≡ all_write in
          choose P (form_error d.ask) _ _ (λ e k. absurd k) (λ e. choose P d.buffered _ _ (λ f k. k) (λ f k. absurd k))

  pub plan_write : Plan A x r due_write all_write
  plan_write = record {
    own = λ w d b p act es fit may h. own_write w d b p act es fit may h;
    left = λ q es h. absurd (true≢false h.0);
    made = made_write;
  }

  -- the WRITE at its answer
  pub end_write : (d : Client) (b : Bool) (p : Pads) {stage : Stage} (act : Act stage) → Shaped A d stage → d ≡ c → answer_of b act ≡ Some Fine →
      due_write (record { client = d; dropped = b; pads = p; stage = stage }) []
  end_write d b p (Answers {v = v}) fit same is = absurd (subst (λ (v : Verdict). IsBad v) (said v Fine is) fit)
    where
      said : (x y : Verdict) → Some x ≡ Some y → x ≡ y
      said x y e = cc
  end_write d true p (Ends {v = v}) fit same is = let f : Some Dropped ≡ Some Fine = is in absurd (cc)
  end_write d false p (Ends {v = v}) fit same is = (refl, (same, said v Fine is, refl))
    where
      said : (x y : Verdict) → Some x ≡ Some y → x ≡ y
      said x y e = cc
  end_write d b p _ fit same is = absurd (some_none (sym is))

-- the law
pub writes_once : (A : ℕ) (w : World) (es : List Element) → 0 < A → Ok A w → ((r : ℕ) → w.req r ≡ None) → w.next ≡ 0 → Runs A w es → WritesOnce A es
writes_once A w es pos ok none zero run r c before e at answer writing x covered =
    let (front, may) = split_run A w es before e run at in
    let (q, act, (is, client, answer', fit)) = answered_at A (world_after A w before) r c Fine e (run_ok A w before pos ok front) may answer in
    (due_run A x r (due_write A x r c pos writing covered) (all_write A x r c pos writing covered) w before q (plan_write A x r c pos writing covered) pos ok front is
    (end_write A x r c pos writing covered q.client q.dropped q.pads act fit client answer')).unmade (none r) (omega arith)
