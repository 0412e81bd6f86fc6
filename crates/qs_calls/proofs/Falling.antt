-- A run of one actor ends: each step that goes on leads to a lower rank, and the next step may come.
use Rattle.std.proofs.Common.{◌≡◌, ℕ, zero, suc, ◌+◌, ◌*◌, ◌-◌, ◌<◌, ◌≤◌, Bool, true, false, not, ◌&&◌, ◌||◌, ◌==◌, nat_lt, List, Option, Some, None}
use Rattle.std.proofs.Common.{refl, sym, ap, ◌∙◌, subst, arith, true≢false}
use Rattle.qs_outside.specs.Blocks.{Seen}
use Rattle.qs_part.specs.declared.event.Actor.{Actor}
use Rattle.qs_part.specs.declared.event.Actor.TheVariants.{Request as ARequest}
use Rattle.qs_part.specs.declared.event.Event.{Event}
use Rattle.qs_part.specs.declared.event.Event.TheVariants.{Step as StepEvent}
use Rattle.qs_part.specs.declared.event.Outcome.{Outcome}
use Rattle.qs_part.specs.declared.stripe.Side.{Side}
use Rattle.qs_part.specs.declared.stripe.Side.TheVariants.{Head, Tail}
use Rattle.qs_request_state.specs.declared.shape.Shape.{Shape}
use Rattle.qs_model.specs.Requests.{Client, Pads, Req, Step, Stage, ToList, ToStart, ToHold, ToStore, ToFree, ToEnd, Entering, In}
use Rattle.qs_model.specs.Requests.{edge, has, is_flush, is_trim, reads, wants_writable, routed, held, started, loaded, stored, syncs, synced, to_sync, hold_failed, store_failed}
use Rattle.qs_model.specs.Worlds.{World}
use Rattle.qs_model.specs.Acts.{Act, Answers, Waits, Enters, Routes, Shuts, Lists, Starts, Loads, LoadFails, Holds, HoldFails, Stores, StoreFails, Syncs, Cleans, SyncFails, Frees, Ends}
use Rattle.qs_model.specs.Acts.{Wait, Quiesced, Full, NotYet, HeldBy, Taken, Strange, NotHeld, Element, Did, block_of}
use Rattle.qs_model.specs.Guards.{CanCome}
use Rattle.qs_model.specs.Steps.{moved, happens}
use Rattle.qs_model.specs.Events.{IsEvent, outcome_of, row_outcome, wait_note, moved_out}
use Rattle.qs_model.proofs.Basics.{blocks_le, choose, put_here}
use Rattle.qs_model.proofs.Holders.{some_none}
use Rattle.qs_world.specs.Events.{IsInside, IsNotNext, Steps}
use Rattle.qs_world.specs.Stands.{Stands}
use Rattle.qs_world.specs.Values.{WorldValue, request_at}
use Rattle.qs_calls.specs.Goings.{goes_on}
use Rattle.qs_calls.specs.Ranks.{rank_of, rank_or, rank_at}

-- where the operation of each stage leads

routed_falls : (size k : ℕ) (c : Client) → rank_of size (In k (routed c)) < size + 16
unfolding routed
routed_falls size k c =
    let P : Step → Type 0 = λ g. rank_of size (In k g) < size + 16 in
    choose P (wants_writable c.ask.kind && not c.route.writable) _ _ (λ e. omega arith)
    (λ may. choose P (is_flush c.ask.kind) _ _ (λ e. omega arith)
    (λ other. choose P (nat_lt c.route.size (c.ask.offset + c.ask.length)) _ _ (λ e. omega arith)
    (λ inside. choose P (c.ask.length == 0 || is_trim c.ask.kind) _ _ (λ e. omega arith) (λ some. omega arith))))

held_falls : (A size k : ℕ) (c : Client) (side : Side) → rank_of size (In k (held A c side)) < rank_of size (In k (ToHold side))
unfolding held
held_falls A size k c Head = choose (λ g. rank_of size (In k g) < size + 13) (has A c Tail) _ _ (λ e. omega arith) (λ e. omega arith)
held_falls A size k c Tail = omega arith

started_falls : (A size k : ℕ) (c : Client) → rank_of size (In k (started A c)) < size + 14
unfolding started
started_falls A size k c =
    let P : Step → Type 0 = λ g. rank_of size (In k g) < size + 14 in
    let f : rank_of size (In k (held A c Head)) < size + 13 = held_falls A size k c Head in
    choose P (reads c) _ _ (λ e. omega arith) (λ e. choose P (has A c Head) _ _ (λ h. omega arith) (λ h. omega arith))

loaded_falls : (A size k : ℕ) (c : Client) (b : ℕ) (got bytes : List ℕ) → b < size → rank_of size (In k (loaded A c b got bytes)) < (size - b) + 11
unfolding loaded
loaded_falls A size k c b got bytes inside =
    choose (λ g. rank_of size (In k g) < (size - b) + 11) (b == edge A c Tail) _ _ (λ e. omega arith) (λ e. omega arith)

to_sync_falls : (A size k : ℕ) (c : Client) (n : ℕ) → rank_of size (In k (to_sync A c n)) ≤ n + 2
unfolding to_sync
to_sync_falls A size k c zero = omega arith
to_sync_falls A size k c (suc n) =
    let rest = to_sync_falls A size k c n in
    choose (λ g. rank_of size (In k g) ≤ suc n + 2) (syncs A c (7 - n)) _ _ (λ e. omega arith) (λ e. omega (arith, rest))

stored_falls : (A size k : ℕ) (c : Client) (b : ℕ) → b < size → rank_of size (In k (stored A c b)) < (size - b) + 11
unfolding stored
stored_falls A size k c b inside =
    let P : Step → Type 0 = λ g. rank_of size (In k g) < (size - b) + 11 in
    let f = to_sync_falls A size k c 8 in
    choose P (b == edge A c Tail) _ _ (λ e. choose P c.ask.fua _ _ (λ fua. omega (arith, f, inside)) (λ plain. omega arith)) (λ e. omega arith)

synced_falls : (A size k : ℕ) (c : Client) (s : ℕ) → rank_of size (In k (synced A c s)) < (8 - s) + 2
unfolding synced to_sync
synced_falls A size k c s = go (7 - s) refl
  where
    go : (n : ℕ) → n ≡ 7 - s → rank_of size (In k (to_sync A c n)) < (8 - s) + 2
    go zero e = omega arith
    go (suc n) e = let f = to_sync_falls A size k c (suc n) in omega (arith, f, e)

hold_failed_falls : (A size k : ℕ) (c : Client) (side : Side) → rank_of size (In k (hold_failed A c side)) < rank_of size (In k (ToHold side))
unfolding hold_failed
hold_failed_falls A size k c Head = omega arith
hold_failed_falls A size k c Tail = choose (λ g. rank_of size (In k g) < size + 12) (has A c Head) _ _ (λ e. omega arith) (λ e. omega arith)

store_failed_falls : (A size k : ℕ) (c : Client) (b : ℕ) → rank_of size (In k (store_failed A c b)) < (size - b) + 11
unfolding store_failed
store_failed_falls A size k c b =
    choose (λ g. rank_of size (In k g) < (size - b) + 11) (has A c Tail && not (b == edge A c Tail)) _ _ (λ e. omega arith) (λ e. omega arith)

-- whether there is an outcome, and a run goes on behind it
abbrev goes : Option Outcome → Bool
goes None = false
goes (Some outcome) = goes_on outcome

-- an answer that leaves a request where it is ends a run
wait_ends : (A : ℕ) (c : Client) (stage : Stage) (wait : Wait) → goes (moved_out (wait_note A c stage wait)) ≡ false
wait_ends A c Entering Quiesced = refl
wait_ends A c Entering Full = refl
wait_ends A c (In k ToList) Strange = refl
wait_ends A c (In k ToStart) (NotYet n) = refl
wait_ends A c (In k ToStart) Strange = refl
wait_ends A c (In k (ToHold side)) (HeldBy j) = refl
wait_ends A c (In k (ToHold side)) (Taken b) = refl
wait_ends A c (In k (ToStore b)) (HeldBy j) = refl
wait_ends A c (In k (ToFree side)) NotHeld = refl
wait_ends A c (In k (ToEnd v)) Strange = refl
wait_ends A c _ _ = refl

-- an image has no more blocks than bytes
block_below : (A size b : ℕ) → 0 < A → (b + 1) * A ≤ size → b < size
block_below A size b positive inside = let h : 1 * (b + 1) ≤ A * (b + 1) = blocks_le 1 A (b + 1) (omega arith) in grind (arith, h, inside)

-- a request that is there, below a rank
abbrev IsBelow : ℕ → ℕ → Option Req → Type 0
IsBelow size n o = (rank_or size o < n) × (o ≡ None → ⊥)

-- a row that goes on leads to a lower rank
row_falls : (A size : ℕ) (c : Client) (d : Bool) (p : Pads) {stage : Stage} (act : Act stage) →
    ((b : ℕ) → block_of A c act ≡ Some b → (0 < A) × ((b + 1) * A ≤ size)) → goes (row_outcome A c d act) ≡ true →
    IsBelow size (rank_of size stage) (moved A c d p act)
row_falls A size c d p Answers inside on = absurd (true≢false (sym on))
row_falls A size c d p (Waits {stage = stage} wait) inside on = absurd (true≢false (sym on ∙ wait_ends A c stage wait))
row_falls A size c d p (Enters k) inside on = (omega arith, λ e. some_none e)
row_falls A size c d p (Routes {k = k} route) inside on = (routed_falls size k (record c { route = route }), λ e. some_none e)
row_falls A size c d p (Shuts {k = k}) inside on = (omega arith, λ e. some_none e)
row_falls A size c d p (Lists {k = k} n) inside on = (omega arith, λ e. some_none e)
row_falls A size c d p (Starts {k = k}) inside on = (started_falls A size k c, λ e. some_none e)
row_falls A size c d p (Loads {k = k} {b = b} {got = got} bytes) inside on =
    let (positive, fits) = inside b refl in (loaded_falls A size k c b got bytes (block_below A size b positive fits), λ e. some_none e)
row_falls A size c d p (LoadFails {k = k} {b = b}) inside on = (omega arith, λ e. some_none e)
row_falls A size c d p (Holds {k = k} {side = side} bytes) inside on = (held_falls A size k c side, λ e. some_none e)
row_falls A size c d p (HoldFails {k = k} {side = side}) inside on = (hold_failed_falls A size k c side, λ e. some_none e)
row_falls A size c d p (Stores {k = k} {b = b} bytes past) inside on =
    let (positive, fits) = inside b refl in (stored_falls A size k c b (block_below A size b positive fits), λ e. some_none e)
row_falls A size c d p (StoreFails {k = k} {b = b} bytes took past) inside on = (store_failed_falls A size k c b, λ e. some_none e)
row_falls A size c d p (Syncs {k = k} {s = s}) inside on = (synced_falls A size k c s, λ e. some_none e)
row_falls A size c d p (Cleans {k = k} {s = s}) inside on = (synced_falls A size k c s, λ e. some_none e)
row_falls A size c d p (SyncFails {k = k} {s = s}) inside on = (omega arith, λ e. some_none e)
row_falls A size c d p Frees inside on = (omega arith, λ e. some_none e)
row_falls A size c d p Ends inside on = absurd (true≢false (sym on))

-- what is wanted of a step
abbrev Falls : {D : Type 0} → WorldValue D → Event → WorldValue D → Type 0
Falls w event w' = (rank_at w' event < rank_at w event) × (IsNotNext w' event → ⊥)

-- a row of the request that the event steps
did_falls : {D : Type 0} (seen : D → Seen) (w w' : WorldValue D) (m : World) (r now : ℕ) (q : Req) (act : Act q.stage) → Stands seen w m → m.req r ≡ Some q →
    Stands seen w' (happens w.shape.align m (Did r q act)) → IsInside w.shape (Did r q act) → w'.shape ≡ w.shape →
    goes (row_outcome w.shape.align q.client q.dropped act) ≡ true → Falls w (StepEvent (ARequest r) now) w'
did_falls seen w w' m r now q act stands there stands' inside kept on =
    let A : ℕ = w.shape.align in
    let o : Option Req = moved A q.client q.dropped q.pads act in
    let before : Some q ≡ request_at w.requests r = sym there ∙ stands.request r in
    let behind : o ≡ request_at w'.requests r = sym (put_here m.req r o) ∙ stands'.request r in
    let low : IsBelow w.shape.size (rank_of w.shape.size q.stage) o = row_falls A w.shape.size q.client q.dropped q.pads act inside on in
    let seen_low : IsBelow w.shape.size (rank_at w (StepEvent (ARequest r) now)) (request_at w'.requests r) =
    subst (λ (x : Option Req). IsBelow w.shape.size (rank_or w.shape.size x) (request_at w'.requests r)) before
    (subst (λ (x : Option Req). IsBelow w.shape.size (rank_of w.shape.size q.stage) x) behind low) in
    subst (λ (s : Shape). IsBelow s.size (rank_at w (StepEvent (ARequest r) now)) (request_at w'.requests r)) (sym kept) seen_low

-- the event of an element that goes on steps a request
element_falls : {D : Type 0} (seen : D → Seen) (w w' : WorldValue D) (m : World) (event : Event) (e : Element) → Stands seen w m → IsEvent event e →
    CanCome w.shape.align m e → Stands seen w' (happens w.shape.align m e) → IsInside w.shape e → w'.shape ≡ w.shape →
    goes (outcome_of w.shape.align e) ≡ true → Falls w event w'
element_falls seen w w' m (StepEvent actor now) (Did r q act) stands is may stands' inside kept on =
    subst (λ (a : Actor). Falls w (StepEvent a now) w') (sym is) (did_falls seen w w' m r now q act stands may.0 stands' inside kept on)
element_falls seen w w' m _ (Did r q act) stands is may stands' inside kept on = absurd is
element_falls seen w w' m event _ stands is may stands' inside kept on = absurd (true≢false (sym on))

-- A step that goes on leads to a lower rank, and the next one may come.
pub falls : {D : Type 0} (seen : D → Seen) (w : WorldValue D) (event : Event) (outcome : Outcome) (w' : WorldValue D) (m : World) → Stands seen w m →
    Steps seen w event outcome w' → goes_on outcome ≡ true → (rank_at w' event < rank_at w event) × (IsNotNext w' event → ⊥)
falls seen w event outcome w' m stands steps on =
    let (may, stands') = steps.does m stands in
    element_falls seen w w' m event steps.element stands steps.answers_event may stands' steps.inside steps.shape_kept (ap goes steps.outcome_is ∙ on)
