-- A READ that is Got has read each byte once, a write that is Fine has written each once.
use Rattle.std.proofs.Common.{◌≡◌, ℕ, ◌+◌, ◌-◌, ◌/◌, ◌<◌, ◌≤◌, Bool, true, false, not, ◌&&◌, ◌||◌, ◌==◌, inl, inr, cond, nat_lt, List, [], ◌∷◌, ◌++◌, length, get_or, Some, None, refl, sym, ap, ◌∙◌, subst, arith, true≢false, eq-eqb, append-nil, append_assoc}
use Rattle.std.specs.List.{filter}
use Rattle.qs_cells.specs.declared.cell.CellEntry.{CellEntry}
use Rattle.qs_cells.specs.declared.cell.CellEntry.TheVariants.{Read}
use Rattle.qs_bytes.specs.declared.ask.Verdict.{Verdict}
use Rattle.qs_bytes.specs.declared.ask.Verdict.TheVariants.{Got, Fine, Refused, Dropped}
use Rattle.qs_part.specs.declared.stripe.Side.{Side}
use Rattle.qs_part.specs.declared.stripe.Side.TheVariants.{Head, Tail}
use Rattle.qs_model.specs.Requests.{Client, Pads, Req, Step, Stage, ToRoute, ToList, ToStart, ToLoad, ToEnd, Entering, In, edge, has, span_of, covers, reads, wants_writable, is_flush, is_trim, success, new_request, form_error, piece, routed, held, started, loaded, stored, hold_failed, store_failed, synced}
use Rattle.qs_model.specs.Worlds.{World}
use Rattle.qs_model.specs.Acts.{Act, Answers, Waits, Enters, Routes, Shuts, Lists, Starts, Loads, LoadFails, Holds, HoldFails, Stores, StoreFails, Syncs, Cleans, SyncFails, Frees, Ends, Element, Did}
use Rattle.qs_model.specs.Guards.{CanCome, MayDo}
use Rattle.qs_model.specs.Steps.{moved, world_after, Runs}
use Rattle.qs_model.specs.Histories.{cell_of, is_entry_of, answer_of, Answered}
use Rattle.qs_model.specs.Laws.{ReadsOnce}
use Rattle.qs_model.proofs.Basics.{choose, either}
use Rattle.qs_model.proofs.RequestKinds.{other_one, trim_no_read}
use Rattle.qs_model.proofs.Syncing.{stored_is, synced_is}
use Rattle.qs_model.proofs.Geometry.{Reaches, covers_low, covers_high, same_eqb}
use Rattle.qs_model.proofs.Facts.{Shaped, IsBad, IsWhole, Loading, Ok}
use Rattle.qs_model.proofs.Holders.{HasMoved, some_none}
use Rattle.qs_model.proofs.Kept.{run_ok, split_run}
use Rattle.qs_model.proofs.Walk.{Plan, due_run}
use Rattle.qs_model.proofs.Once.{rest_of, join, join_last, place_reached, from_first, entry_here, piece_value}

module _ (A : ℕ) (x : ℕ) (r : ℕ) (c : Client) (bytes : List ℕ) (pos : 0 < A) (covered : covers c x ≡ true) where
  -- the one entry of a READ
  abbrev pub all_read : List CellEntry
  all_read = Read r (get_or bytes (x - (span_of c).lo) 0) ∷ []

  abbrev pub stage_read : Client → Stage → List CellEntry → Type 0
  stage_read c' Entering es = es ≡ all_read
  stage_read c' (In k ToRoute) es = es ≡ all_read
  stage_read c' (In k ToList) es = es ≡ all_read
  stage_read c' (In k ToStart) es = es ≡ all_read
  stage_read c' (In k (ToLoad b got)) es = (c' ≡ c) × ((rest : List ℕ) × (bytes ≡ got ++ rest)) × (es ≡ rest_of (x / A) b all_read)
  stage_read c' (In k (ToEnd v)) es = (c' ≡ c) × (v ≡ Got bytes) × (es ≡ [])
  stage_read c' _ es = ⊥

  -- what a READ that is to be Got still reads
  abbrev pub due_read : Req → List CellEntry → Type 0
  due_read q es = (q.dropped ≡ false) × stage_read q.client q.stage es

  pub some_read : (d : Client) → d ≡ c → (d.ask.length == 0) ≡ true → ⊥
  some_read d same none =
      let low : (span_of c).lo ≤ x = covers_low c x covered in
      let high : x < (span_of c).hi = covers_high c x covered in
      let zero : d.ask.length ≡ 0 = same_eqb d.ask.length 0 none in
      let zero' : c.ask.length ≡ 0 = subst (λ (y : Client). y.ask.length ≡ 0) same zero in
      omega arith

  pub routed_read : (d : Client) (k : ℕ) (es : List CellEntry) → stage_read d (In k (routed d)) es → es ≡ all_read
  unfolding routed
  routed_read d k es =
      let P : Step → Type 0 = λ g. stage_read d (In k g) es → es ≡ all_read in
      choose P (wants_writable d.ask.kind && not d.route.writable) _ _ (λ e h. let f : Refused _ ≡ Got bytes = h.1 in absurd (cc))
      (λ may. choose P (is_flush d.ask.kind) _ _ (λ e h. absurd h)
      (λ sync. choose P (nat_lt d.route.size (d.ask.offset + d.ask.length)) _ _ (λ e h. let f : Refused _ ≡ Got bytes = h.1 in absurd (cc))
      (λ in_size. choose P (d.ask.length == 0 || is_trim d.ask.kind) _ _ (λ e h. elim (either (d.ask.length == 0)) [
        | inl none ↦ absurd (some_read d h.0 none)
        | inr some ↦ let f : success d [] ≡ Fine = ap (λ b. cond b (Got []) Fine) (trim_no_read d.ask.kind (other_one _ _ e some)) in
            let g : Fine ≡ Got bytes = sym f ∙ h.1 in absurd (cc)
      ]) (λ e h. h))))

  pub held_read : (d : Client) (k : ℕ) (side : Side) (es : List CellEntry) → stage_read d (In k (held A d side)) es → ⊥
  unfolding held
  held_read d k Head es = choose (λ g. stage_read d (In k g) es → ⊥) (has A d Tail) _ _ (λ e h. h) (λ e h. h)
  held_read d k Tail es = λ h. h

  pub started_read : (d : Client) (k : ℕ) (es : List CellEntry) → stage_read d (In k (started A d)) es → es ≡ all_read
  unfolding started
  started_read d k es =
      let P : Step → Type 0 = λ g. stage_read d (In k g) es → es ≡ all_read in
      choose P (reads d) _ _ (λ e h. from_first A d x all_read es pos (subst (λ (y : Client). covers y x ≡ true) (sym h.0) covered) h.2)
      (λ e. choose P (has A d Head) _ _ (λ f h. absurd h) (λ f h. absurd (held_read d k Head es h)))

  pub got_inside : (a b : List ℕ) → Got a ≡ Got b → a ≡ b
  got_inside a b e = cc

  pub loaded_read : (d : Client) (k b : ℕ) (got block : List ℕ) (es : List CellEntry) → Loading A d b got → length block ≡ A → stage_read d (In k (loaded A d b got block)) es →
      stage_read d (In k (ToLoad b got)) (filter (is_entry_of r) (cell_of A x r d (Loads {k = k} {b = b} {got = got} block)) ++ es)
  unfolding loaded
  loaded_read d k b got block es l whole =
      let P : Step → Type 0 = λ g. stage_read d (In k g) es → stage_read d (In k (ToLoad b got)) (filter (is_entry_of r) (cell_of A x r d (Loads {k = k} {b = b} {got = got} block)) ++ es) in
      choose P (b == edge A d Tail) _ _
      (λ e h.
      let last : b ≡ edge A d Tail = same_eqb b (edge A d Tail) e in
      let reach : Reaches A d (x / A) = place_reached A d x pos (own h.0) in
      let le : x / A ≤ edge A d Tail = reach.last in
      let is : got ++ piece A d b block ≡ bytes = got_inside _ _ h.1 in (
        h.0,
        (piece A d b block, sym is),
        join (x / A) b _ all_read es (entry h.0 [] (sym is ∙ sym (append-nil (got ++ piece A d b block)))) (join_last (x / A) b all_read es (omega arith) h.2),
      ))
      (λ e h. (
        h.0,
        (piece A d b block ++ h.1.0, h.1.1 ∙ append_assoc got (piece A d b block) h.1.0),
        join (x / A) b _ all_read es (entry h.0 h.1.0 h.1.1) h.2,
      ))
    where
      own : d ≡ c → covers d x ≡ true
      own same = subst (λ (y : Client). covers y x ≡ true) (sym same) covered

      entry : d ≡ c → (rest : List ℕ) → bytes ≡ (got ++ piece A d b block) ++ rest →
          filter (is_entry_of r) (cell_of A x r d (Loads {k = k} {b = b} {got = got} block)) ≡ cond (x / A == b) all_read []
      entry same rest is =
          entry_here r _ _ (reads d) (covers d x) (x / A == b) l.reading (own same) (eq-eqb r r refl)
          (λ e. ap (λ (v : ℕ). Read r v)
          (sym (piece_value A d b x got block rest pos l whole (own same) (same_eqb (x / A) b e))
          ∙ ap (λ (l : List ℕ). get_or l (x - (span_of d).lo) 0) (sym is)
          ∙ ap (λ (y : Client). get_or bytes (x - (span_of y).lo) 0) same))

  pub hold_failed_read : (d : Client) (k : ℕ) (side : Side) (es : List CellEntry) → stage_read d (In k (hold_failed A d side)) es → ⊥
  unfolding hold_failed
  hold_failed_read d k Head es = λ h. let f : Refused _ ≡ Got bytes = h.1 in cc
  hold_failed_read d k Tail es = choose (λ g. stage_read d (In k g) es → ⊥) (has A d Head) _ _ (λ e h. h) (λ e h. let f : Refused _ ≡ Got bytes = h.1 in cc)

  pub stored_read : (d : Client) (k b : ℕ) (es : List CellEntry) → stage_read d (In k (stored A d b)) es → ⊥
  stored_read d k b es = stored_is (λ g. stage_read d (In k g) es → ⊥) A d b (λ e h. let f : Fine ≡ Got bytes = h.1 in cc) (λ e s lt h. h) (λ e h. h)

  pub synced_read : (d : Client) (k s : ℕ) (es : List CellEntry) → stage_read d (In k (synced A d s)) es → ⊥
  synced_read d k s es = synced_is (λ g. stage_read d (In k g) es → ⊥) A d s (λ h. let f : Fine ≡ Got bytes = h.1 in cc) (λ t lt h. h)

  pub store_failed_read : (d : Client) (k b : ℕ) (es : List CellEntry) → stage_read d (In k (store_failed A d b)) es → ⊥
  unfolding store_failed
  store_failed_read d k b es =
      choose (λ g. stage_read d (In k g) es → ⊥) (has A d Tail && not (b == edge A d Tail)) _ _ (λ e h. h) (λ e h. let f : Refused _ ≡ Got bytes = h.1 in cc)

  pub own_read : (w : World) (d : Client) (b : Bool) (p : Pads) {stage : Stage} (act : Act stage) (es : List CellEntry) → Shaped A d stage → MayDo A w d p act →
      HasMoved (λ q. due_read q es) (moved A d b p act) →
      due_read (record { client = d; dropped = b; pads = p; stage = stage }) (filter (is_entry_of r) (cell_of A x r d act) ++ es)
  own_read w d b p Answers es fit may h = absurd h
  own_read w d b p (Waits wait) es fit may h = h
  own_read w d b p (Enters k) es fit may h = h
  own_read w d b p (Routes {k = k} route) es fit may h = (h.0, routed_read (record d { route = route }) k es h.1)
  own_read w d b p Shuts es fit may h = let f : Refused _ ≡ Got bytes = h.1.1 in absurd (cc)
  own_read w d b p (Lists n) es fit may h = h
  own_read w d b p (Starts {k = k}) es fit may h = (h.0, started_read d k es h.1)
  own_read w d b p (Loads {k = k} {b = n} {got = got} block) es fit may h = (h.0, loaded_read d k n got block es fit may.whole h.1)
  own_read w d b p LoadFails es fit may h = let f : Refused _ ≡ Got bytes = h.1.1 in absurd (cc)
  own_read w d b p (Holds {k = k} {side = side} block) es fit may h = absurd (held_read d k side es h.1)
  own_read w d b p (HoldFails {k = k} {side = side}) es fit may h = absurd (hold_failed_read d k side es h.1)
  own_read w d b p (Stores {k = k} {b = n} block past) es fit may h = absurd (stored_read d k n es h.1)
  own_read w d b p (StoreFails {k = k} {b = n} block took past) es fit may h = absurd (store_failed_read d k n es h.1)
  own_read w d b p (Syncs {k = k} {s = s}) es fit may h = absurd (synced_read d k s es h.1)
  own_read w d b p (Cleans {k = k} {s = s}) es fit may h = absurd (synced_read d k s es h.1)
  own_read w d b p SyncFails es fit may h = let f : Refused _ ≡ Got bytes = h.1.1 in absurd (cc)
  own_read w d b p Frees es fit may h = let f : Refused _ ≡ Got bytes = h.1.1 in absurd (cc)
  own_read w d b p Ends es fit may h = absurd h

  pub made_read : (d : Client) (es : List CellEntry) → due_read (new_request d) es → es ≡ all_read
  made_read d es h = go h.1
    where
      go : stage_read d (new_request d).stage es → es ≡ all_read
      go =
          let P : Stage → Type 0 = λ g. stage_read d g es → es ≡ all_read in
          choose P (form_error d.ask) _ _ (λ e k. absurd k) (λ e. choose P d.buffered _ _ (λ f k. k) (λ f k. absurd k))

  pub plan_read : Plan A x r due_read all_read
  plan_read = record {
    own = λ w d b p act es fit may h. own_read w d b p act es fit may h;
    left = λ q es h. absurd (true≢false h.0);
    made = made_read;
  }

  -- the READ at its answer
  pub end_read : (d : Client) (b : Bool) (p : Pads) {stage : Stage} (act : Act stage) → Shaped A d stage → d ≡ c → answer_of b act ≡ Some (Got bytes) →
      due_read (record { client = d; dropped = b; pads = p; stage = stage }) []
  end_read d b p (Answers {v = v}) fit same is = absurd (subst (λ (v : Verdict). IsBad v) (said v (Got bytes) is) fit)
    where
      said : (x y : Verdict) → Some x ≡ Some y → x ≡ y
      said x y e = cc
  end_read d true p (Ends {v = v}) fit same is = let f : Some Dropped ≡ Some (Got bytes) = is in absurd (cc)
  end_read d false p (Ends {v = v}) fit same is = (refl, (same, said v (Got bytes) is, refl))
    where
      said : (x y : Verdict) → Some x ≡ Some y → x ≡ y
      said x y e = cc
  end_read d b p _ fit same is = absurd (some_none (sym is))

-- the request at its answer is there
pub answered_at : (A : ℕ) (w : World) (r : ℕ) (c : Client) (v : Verdict) (e : Element) → Ok A w → CanCome A w e → Answered r c v e →
    (q : Req) × (act : Act q.stage) × ((w.req r ≡ Some q) × (q.client ≡ c) × (answer_of q.dropped act ≡ Some v) × Shaped A q.client q.stage)
answered_at A w r c v (Did s q act) ok may is =
    let (same, client, answer) = is in
    (q, act, (ap w.req (sym same) ∙ may.0, client, answer, (ok.well s q may.0).shaped))
answered_at A w r c v _ ok may is = absurd is

-- the reply is as long as was asked for
pub answer_whole : (A : ℕ) (c : Client) (d : Bool) {stage : Stage} (act : Act stage) (bytes : List ℕ) → Shaped A c stage → answer_of d act ≡ Some (Got bytes) → length bytes ≡ c.ask.length
answer_whole A c d (Answers {v = v}) bytes fit is = absurd (subst (λ (v : Verdict). IsBad v) (said v (Got bytes) is) fit)
  where
    said : (x y : Verdict) → Some x ≡ Some y → x ≡ y
    said x y e = cc
answer_whole A c true (Ends {v = v}) bytes fit is = let f : Some Dropped ≡ Some (Got bytes) = is in absurd (cc)
answer_whole A c false (Ends {v = v}) bytes fit is = subst (λ (v : Verdict). IsWhole c v) (said v (Got bytes) is) fit
  where
    said : (x y : Verdict) → Some x ≡ Some y → x ≡ y
    said x y e = cc
answer_whole A c d _ bytes fit is = absurd (some_none (sym is))

-- the law
pub reads_once : (A : ℕ) (w : World) (es : List Element) → 0 < A → Ok A w → ((r : ℕ) → w.req r ≡ None) → w.next ≡ 0 → Runs A w es → ReadsOnce A es
reads_once A w es pos ok none zero run = record {
  whole = λ r c bytes before e at answer.
      let (front, may) = split_run A w es before e run at in
      let (q, act, (is, client, answer', fit)) = answered_at A (world_after A w before) r c (Got bytes) e (run_ok A w before pos ok front) may answer in
      subst (λ (y : Client). length bytes ≡ y.ask.length) client (answer_whole A q.client q.dropped act bytes fit answer');
  once = λ r c bytes before e at answer x covered.
      let (front, may) = split_run A w es before e run at in
      let (q, act, (is, client, answer', fit)) = answered_at A (world_after A w before) r c (Got bytes) e (run_ok A w before pos ok front) may answer in
      (due_run A x r (due_read A x r c bytes pos covered) (all_read A x r c bytes pos covered) w before q (plan_read A x r c bytes pos covered) pos ok front is
      (end_read A x r c bytes pos covered q.client q.dropped q.pads act fit client answer')).unmade (none r) (omega arith);
}
