-- What a request does next is one row of its table, but for what a crash may leave of a stored block.
use Rattle.std.proofs.Common.{◌≡◌, ◌≢◌, ℕ, ◌<◌, ◌≤◌, List, [], position, Some, None, IsTrue, refl, sym, ap, ◌∙◌, subst, arith, true≢false}
use Rattle.std.proofs.lemmas.List.{ext_get_or}
use Rattle.qs_bytes.specs.declared.ask.Verdict.{Verdict}
use Rattle.qs_part.specs.declared.graph.Route.{Route}
use Rattle.qs_part.specs.declared.stripe.Side.{Side}
use Rattle.qs_model.specs.Requests.{Client, Pads, Stage, ToRoute, ToList, ToStart, ToLoad, ToHold, ToStore, ToSync, ToFree, ToEnd, Ready, Entering, In}
use Rattle.qs_part.specs.declared.tracker.TrackerReply.TheVariants.{Started, NotYet as NotYetReply}
use Rattle.qs_graph.specs.declared.export.Export.{Export}
use Rattle.qs_graph.specs.Table.{route_of}
use Rattle.qs_tracker.specs.declared.seat.Seat.{Seat}
use Rattle.qs_tracker.specs.declared.seat.Seat.TheVariants.{Vacant, Present, Has}
use Rattle.qs_tracker.specs.Seats.{is_vacant, seat_at}
use Rattle.qs_tracker.specs.Table.{MayStart}
use Rattle.qs_model.specs.Worlds.{Image, World}
use Rattle.qs_bytes.specs.Geometry.{stripe_of}
use Rattle.qs_model.specs.Acts.{Act, Answers, Waits, Enters, Routes, Shuts, Lists, Starts, Loads, LoadFails, Holds, HoldFails, Stores, StoreFails, Syncs, Cleans, SyncFails, Frees, Ends, Wait, Quiesced, Full, NotYet, HeldBy, Taken, Strange, NotHeld}
use Rattle.qs_model.specs.Guards.{MayDo, MayWait, CanStore}
use Rattle.qs_model.specs.Histories.{IsOdd, IsOddRow}
use Rattle.qs_determined.specs.Determined.{IsRowPlanned}
use Rattle.qs_determined.proofs.States.{with_past}

-- a row that may come: where the disk failed that was planned, and it isn't odd
pub record Due (A : ℕ) (w : World) (c : Client) (p : Pads) {stage : Stage} (act : Act stage) : Type 0 where
  pub may : MayDo A w c p act
  pub planned : IsRowPlanned A w c act
  pub plain : IsOddRow act → ⊥

-- the row, with this for what a crash may leave of a stored block
abbrev pub keeping : List (List ℕ) → {stage : Stage} → Act stage → Act stage
keeping kept (Stores bytes past) = Stores bytes kept
keeping kept (StoreFails bytes took past) = StoreFails bytes took kept
keeping kept act = act

-- one row, but for what a crash may leave
abbrev pub OneRow : {stage : Stage} → Act stage → Act stage → Type 0
OneRow act other = (kept : List (List ℕ)) × (other ≡ keeping kept act)

-- the stages where a request may wait
abbrev pub IsWaiting : Stage → Type 0
IsWaiting Entering = Unit {0}
IsWaiting (In k ToStart) = Unit {0}
IsWaiting _ = ⊥

-- an answer that leaves a request where it is comes there alone, if it isn't odd
pub waits_there : (A : ℕ) (w : World) (c : Client) (stage : Stage) (wait : Wait) → MayWait A w c stage wait → (IsOdd wait → ⊥) → IsWaiting stage
waits_there A w c Entering wait may plain = tt
waits_there A w c (In k ToStart) wait may plain = tt
waits_there A w c (In k ToList) Strange may plain = absurd (plain tt)
waits_there A w c (In k (ToHold side)) (HeldBy j) may plain = absurd (plain tt)
waits_there A w c (In k (ToHold side)) (Taken b) may plain = absurd (plain tt)
waits_there A w c (In k (ToStore b)) (HeldBy j) may plain = absurd (plain tt)
waits_there A w c (In k (ToFree side)) NotHeld may plain = absurd (plain tt)
waits_there A w c (In k (ToEnd v)) Strange may plain = absurd (plain tt)
waits_there A w c _ _ may plain = absurd may

-- something isn't nothing
pub some_none : {X : Type 0} (x : X) → Some x ≢ None
some_none x e = cc

-- a span that can start needn't wait
pub start_never : (seats : List Seat) (s : Seat) (n : ℕ) → MayStart seats s Started → MayStart seats s (NotYetReply n) → ⊥
start_never seats (Has own) n clear low = clear low.at low.precedes
start_never seats Vacant n clear low = low
start_never seats Present n clear low = low

-- the number that it waits for is the lowest
pub wait_le : (seats : List Seat) (s : Seat) (n m : ℕ) → MayStart seats s (NotYetReply n) → MayStart seats s (NotYetReply m) → n ≤ m
wait_le seats (Has own) n m a b = subst (λ (o : ℕ). n ≤ o) b.number (a.lowest b.at b.precedes)
wait_le seats Vacant n m a b = absurd a
wait_le seats Present n m a b = absurd a

-- what a store writes: the covered bytes, and the kept pad's
pub store_bytes : (A : ℕ) (i j : Image) (k : ℕ) (c : Client) (p : Pads) (b : ℕ) (bytes others : List ℕ) (past kept : List (List ℕ)) →
    CanStore A i k c p b bytes past → CanStore A j k c p b others kept → others ≡ bytes
store_bytes A i j k c p b bytes others past kept can too = ext_get_or 0 others bytes (too.whole ∙ sym can.whole)
    (λ x lt. let low : x < A = subst (λ (n : ℕ). x < n) too.whole lt in too.merged x low ∙ sym (can.merged x low))

module _ (A : ℕ) (w : World) (past : ℕ → List (List ℕ)) (c : Client) (p : Pads) where
  -- at the answer
  pub ready_one : {v : Verdict} (act other : Act (Ready v)) → Due A w c p act → Due A (with_past w past) c p other → OneRow act other
  ready_one Answers Answers h g = ([], refl)
  ready_one {v = v} Answers (Waits x) h g = absurd (waits_there A (with_past w past) c (Ready v) x g.may g.plain)
  ready_one {v = v} (Waits x) other h g = absurd (waits_there A w c (Ready v) x h.may h.plain)

  -- at Enter: the lowest free place, or why there is none
  pub entering_one : (act other : Act Entering) → Due A w c p act → Due A (with_past w past) c p other → OneRow act other
  entering_one (Enters k) (Enters j) h g =
      let f : position is_vacant w.tracker.seats ≡ Some k = h.may.1 in
      let e : position is_vacant w.tracker.seats ≡ Some j = g.may.1 in
      let same : j ≡ k = cc in
      ([], ap (λ (n : ℕ). Enters n) same)
  entering_one (Enters k) (Waits Quiesced) h g = absurd (true≢false (sym g.may ∙ h.may.0))
  entering_one (Enters k) (Waits Full) h g = absurd (some_none k (sym h.may.1 ∙ g.may.1))
  entering_one (Enters k) (Waits x) h g = absurd g.may
  entering_one (Waits Quiesced) (Enters k) h g = absurd (true≢false (sym h.may ∙ g.may.0))
  entering_one (Waits Quiesced) (Waits Quiesced) h g = ([], refl)
  entering_one (Waits Quiesced) (Waits Full) h g = absurd (true≢false (sym h.may ∙ g.may.0))
  entering_one (Waits Full) (Enters k) h g = absurd (some_none k (sym g.may.1 ∙ h.may.1))
  entering_one (Waits Full) (Waits Quiesced) h g = absurd (true≢false (sym g.may ∙ h.may.0))
  entering_one (Waits Full) (Waits Full) h g = ([], refl)
  entering_one (Waits Quiesced) (Waits x) h g = absurd g.may
  entering_one (Waits Full) (Waits x) h g = absurd g.may
  entering_one (Waits x) other h g = absurd h.may

  -- at Route: the way, or that the export doesn't stand any more
  pub route_one : {k : ℕ} (act other : Act (In k ToRoute)) → Due A w c p act → Due A (with_past w past) c p other → OneRow act other
  route_one (Routes route) (Routes way) h g =
      let (x, (stands, is)) = h.may in
      let (y, (there, at)) = g.may in
      let same : y ≡ x = cc in
      ([], ap (λ (r : Route). Routes r) (at ∙ ap (λ (z : Export). route_of w.graph.size z) same ∙ sym is))
  route_one (Routes route) Shuts h g = let (x, (stands, is)) = h.may in absurd (some_none x (sym stands ∙ g.may))
  route_one Shuts (Routes way) h g = let (x, (stands, is)) = g.may in absurd (some_none x (sym stands ∙ h.may))
  route_one Shuts Shuts h g = ([], refl)
  route_one {k = k} (Waits x) other h g = absurd (waits_there A w c (In k ToRoute) x h.may h.plain)
  route_one {k = k} (Routes route) (Waits x) h g = absurd (waits_there A (with_past w past) c (In k ToRoute) x g.may g.plain)
  route_one {k = k} Shuts (Waits x) h g = absurd (waits_there A (with_past w past) c (In k ToRoute) x g.may g.plain)

  -- at List: the next number
  pub list_one : {k : ℕ} (act other : Act (In k ToList)) → Due A w c p act → Due A (with_past w past) c p other → OneRow act other
  list_one (Lists n) (Lists m) h g = ([], ap (λ (o : ℕ). Lists o) (g.may.1 ∙ sym h.may.1))
  list_one {k = k} (Waits x) other h g = absurd (waits_there A w c (In k ToList) x h.may h.plain)
  list_one {k = k} (Lists n) (Waits x) h g = absurd (waits_there A (with_past w past) c (In k ToList) x g.may g.plain)

  -- at Start: it goes, or the number that it waits for
  pub start_one : {k : ℕ} (act other : Act (In k ToStart)) → Due A w c p act → Due A (with_past w past) c p other → OneRow act other
  start_one {k = k} Starts Starts h g = ([], refl)
  start_one {k = k} Starts (Waits (NotYet n)) h g = absurd (start_never w.tracker.seats (seat_at w.tracker.seats k) n h.may g.may)
  start_one {k = k} (Waits (NotYet n)) Starts h g = absurd (start_never w.tracker.seats (seat_at w.tracker.seats k) n g.may h.may)
  start_one {k = k} (Waits (NotYet n)) (Waits (NotYet m)) h g =
      let f : n ≤ m = wait_le w.tracker.seats (seat_at w.tracker.seats k) n m h.may g.may in
      let e : m ≤ n = wait_le w.tracker.seats (seat_at w.tracker.seats k) m n g.may h.may in
      ([], ap (λ (o : ℕ). Waits (NotYet o)) (omega arith))
  start_one {k = k} Starts (Waits Strange) h g = absurd (g.plain tt)
  start_one {k = k} Starts (Waits x) h g = absurd g.may
  start_one {k = k} (Waits (NotYet n)) (Waits Strange) h g = absurd (g.plain tt)
  start_one {k = k} (Waits (NotYet n)) (Waits x) h g = absurd g.may
  start_one {k = k} (Waits Strange) other h g = absurd (h.plain tt)
  start_one {k = k} (Waits x) other h g = absurd h.may

  -- at Load: the block's bytes, or the failure that was planned
  pub load_one : {k b : ℕ} {got : List ℕ} (act other : Act (In k (ToLoad b got))) → IsTrue w.tells → Due A w c p act →
      Due A (with_past w past) c p other → OneRow act other
  load_one (Loads bytes) (Loads others) told h g = ([], ap (λ (o : List ℕ). Loads o) (g.may.now told ∙ sym (h.may.now told)))
  load_one (Loads bytes) LoadFails told h g = absurd (true≢false (sym g.planned ∙ h.may.planned))
  load_one LoadFails (Loads bytes) told h g = absurd (true≢false (sym h.planned ∙ g.may.planned))
  load_one LoadFails LoadFails told h g = ([], refl)
  load_one {k = k} {b = b} {got = got} (Waits x) other told h g = absurd (waits_there A w c (In k (ToLoad b got)) x h.may h.plain)
  load_one {k = k} {b = b} {got = got} (Loads bytes) (Waits x) told h g =
      absurd (waits_there A (with_past w past) c (In k (ToLoad b got)) x g.may g.plain)
  load_one {k = k} {b = b} {got = got} LoadFails (Waits x) told h g =
      absurd (waits_there A (with_past w past) c (In k (ToLoad b got)) x g.may g.plain)

  -- at Hold, too
  pub hold_one : {k : ℕ} {side : Side} (act other : Act (In k (ToHold side))) → IsTrue w.tells → Due A w c p act →
      Due A (with_past w past) c p other → OneRow act other
  hold_one (Holds bytes) (Holds others) told h g = ([], ap (λ (o : List ℕ). Holds o) (g.may.1.now told ∙ sym (h.may.1.now told)))
  hold_one (Holds bytes) HoldFails told h g = absurd (true≢false (sym g.planned ∙ h.may.1.planned))
  hold_one HoldFails (Holds bytes) told h g = absurd (true≢false (sym h.planned ∙ g.may.1.planned))
  hold_one HoldFails HoldFails told h g = ([], refl)
  hold_one {k = k} {side = side} (Waits x) other told h g = absurd (waits_there A w c (In k (ToHold side)) x h.may h.plain)
  hold_one {k = k} {side = side} (Holds bytes) (Waits x) told h g =
      absurd (waits_there A (with_past w past) c (In k (ToHold side)) x g.may g.plain)
  hold_one {k = k} {side = side} HoldFails (Waits x) told h g =
      absurd (waits_there A (with_past w past) c (In k (ToHold side)) x g.may g.plain)

  -- at Store: the bytes that it writes; whether they were taken all the same is planned
  pub store_one : {k b : ℕ} (act other : Act (In k (ToStore b))) → Due A w c p act → Due A (with_past w past) c p other → OneRow act other
  store_one {k = k} {b = b} (Stores bytes old) (Stores others kept) h g =
      (kept, ap (λ (o : List ℕ). Stores o kept) (store_bytes A _ _ k c p b bytes others old kept h.may.0 g.may.0))
  store_one {b = b} (Stores bytes old) (StoreFails others took kept) h g = absurd (some_none took (sym g.planned ∙ h.may.2))
  store_one {b = b} (StoreFails bytes took old) (Stores others kept) h g = absurd (some_none took (sym h.planned ∙ g.may.2))
  store_one {k = k} {b = b} (StoreFails bytes took old) (StoreFails others too kept) h g =
      let same : others ≡ bytes = store_bytes A _ _ k c p b bytes others old kept h.may.0 g.may.0 in
      let planned : (w.plans (stripe_of b)).store ≡ Some took = h.planned in
      let is : (w.plans (stripe_of b)).store ≡ Some too = g.planned in
      let taken : too ≡ took = cc in
      (kept, λ i. StoreFails (same i) (taken i) kept)
  store_one {k = k} {b = b} (Waits x) other h g = absurd (waits_there A w c (In k (ToStore b)) x h.may h.plain)
  store_one {k = k} {b = b} (Stores bytes old) (Waits x) h g = absurd (waits_there A (with_past w past) c (In k (ToStore b)) x g.may g.plain)
  store_one {k = k} {b = b} (StoreFails bytes took old) (Waits x) h g = absurd (waits_there A (with_past w past) c (In k (ToStore b)) x g.may g.plain)

  -- at Free and at End there is one row
  pub free_one : {k : ℕ} {side : Side} (act other : Act (In k (ToFree side))) → Due A w c p act → Due A (with_past w past) c p other → OneRow act other
  free_one Frees Frees h g = ([], refl)
  free_one {k = k} {side = side} (Waits x) other h g = absurd (waits_there A w c (In k (ToFree side)) x h.may h.plain)
  free_one {k = k} {side = side} Frees (Waits x) h g = absurd (waits_there A (with_past w past) c (In k (ToFree side)) x g.may g.plain)

  pub end_one : {k : ℕ} {v : Verdict} (act other : Act (In k (ToEnd v))) → Due A w c p act → Due A (with_past w past) c p other → OneRow act other
  end_one Ends Ends h g = ([], refl)
  end_one {k = k} {v = v} (Waits x) other h g = absurd (waits_there A w c (In k (ToEnd v)) x h.may h.plain)
  end_one {k = k} {v = v} Ends (Waits x) h g = absurd (waits_there A (with_past w past) c (In k (ToEnd v)) x g.may g.plain)

  -- at Sync: the stripe was clean, or was synced, or the failure that was planned
  pub sync_one : {k s : ℕ} (act other : Act (In k (ToSync s))) → Due A w c p act → Due A (with_past w past) c p other → OneRow act other
  sync_one Syncs Syncs h g = ([], refl)
  sync_one Syncs Cleans h g = absurd (true≢false (sym g.may ∙ h.may.0))
  sync_one Syncs SyncFails h g = absurd (true≢false (sym g.planned ∙ h.may.1))
  sync_one Cleans Syncs h g = absurd (true≢false (sym h.may ∙ g.may.0))
  sync_one Cleans Cleans h g = ([], refl)
  sync_one Cleans SyncFails h g = absurd (true≢false (sym h.may ∙ g.may))
  sync_one SyncFails Syncs h g = absurd (true≢false (sym h.planned ∙ g.may.1))
  sync_one SyncFails Cleans h g = absurd (true≢false (sym g.may ∙ h.may))
  sync_one SyncFails SyncFails h g = ([], refl)
  sync_one {k = k} {s = s} (Waits x) other h g = absurd (waits_there A w c (In k (ToSync s)) x h.may h.plain)
  sync_one {k = k} {s = s} Syncs (Waits x) h g = absurd (waits_there A (with_past w past) c (In k (ToSync s)) x g.may g.plain)
  sync_one {k = k} {s = s} Cleans (Waits x) h g = absurd (waits_there A (with_past w past) c (In k (ToSync s)) x g.may g.plain)
  sync_one {k = k} {s = s} SyncFails (Waits x) h g = absurd (waits_there A (with_past w past) c (In k (ToSync s)) x g.may g.plain)

  -- the row that a request does next
  pub row_one : (stage : Stage) (act other : Act stage) → IsTrue w.tells → Due A w c p act → Due A (with_past w past) c p other → OneRow act other
  row_one (Ready v) act other told h g = ready_one act other h g
  row_one Entering act other told h g = entering_one act other h g
  row_one (In k ToRoute) act other told h g = route_one act other h g
  row_one (In k ToList) act other told h g = list_one act other h g
  row_one (In k ToStart) act other told h g = start_one act other h g
  row_one (In k (ToLoad b got)) act other told h g = load_one act other told h g
  row_one (In k (ToHold side)) act other told h g = hold_one act other told h g
  row_one (In k (ToStore b)) act other told h g = store_one act other h g
  row_one (In k (ToSync s)) act other told h g = sync_one act other h g
  row_one (In k (ToFree side)) act other told h g = free_one act other h g
  row_one (In k (ToEnd v)) act other told h g = end_one act other h g
