-- What a step leaves of the request's own place, and of the order of the listed spans.
use Rattle.std.proofs.Common.{◌≡◌, ◌≢◌, ℕ, ◌+◌, ◌<◌, Bool, true, false, not, ◌&&◌, ◌||◌, ◌==◌, inl, inr, true≢false, nat_lt, List, length, refl, sym, ap, ◌∙◌, arith}
use Rattle.qs_bytes.specs.Spans.{aligned_out}
use Rattle.qs_bytes.specs.declared.ask.Verdict.TheVariants.{Refused}
use Rattle.qs_bytes.specs.declared.ask.Errno.TheVariants.{Io}
use Rattle.qs_part.specs.declared.stripe.Side.{Side}
use Rattle.qs_part.specs.declared.stripe.Side.TheVariants.{Head, Tail}
use Rattle.qs_part.specs.declared.tracker.TrackerOp.TheVariants.{Enter, Start, End}
use Rattle.qs_part.specs.declared.tracker.TrackerReply.TheVariants.{Entered, Listed, Started, Ended}
use Rattle.qs_tracker.specs.declared.seat.Listing.{Listing}
use Rattle.qs_tracker.specs.declared.seat.Seat.TheVariants.{Vacant, Present, Has}
use Rattle.qs_tracker.specs.Seats.{seat_at}
use Rattle.qs_tracker.specs.Table.{TrackerValue, going, numbered, after as tracker_after}
use Rattle.qs_tracker.proofs.Rows.{free_place, numbered_length, seat_here, taken_inside}
use Rattle.qs_tracker.proofs.Sound.{Sound, after_sound}
use Rattle.qs_model.specs.Requests.{Client, Pads, Step, Stage, ToRoute, ToList, ToStart, ToLoad, ToHold, ToStore, ToSync, ToFree, ToEnd, edge, has, reads, serial, span_of, writes, wants_writable, is_flush, is_trim, routed, held, started, loaded, stored, hold_failed, store_failed, synced}
use Rattle.qs_model.specs.Worlds.{World}
use Rattle.qs_model.specs.Acts.{Act, Answers, Waits, Enters, Routes, Shuts, Lists, Starts, Loads, LoadFails, Holds, HoldFails, Stores, StoreFails, Syncs, Cleans, SyncFails, Frees, Ends}
use Rattle.qs_model.specs.Guards.{list_op, MayDo}
use Rattle.qs_model.specs.Steps.{moved, tracked}
use Rattle.qs_model.proofs.Basics.{choose, either}
use Rattle.qs_model.proofs.RequestKinds.{stores_no_flush}
use Rattle.qs_model.proofs.Syncing.{stored_is, synced_is}
use Rattle.qs_model.proofs.Facts.{Sits, Goes, SyncSeat, Seated, Seats, Shaped}
use Rattle.qs_model.proofs.Machine.{ForMoved}

-- a step after the start, or the end
abbrev pub IsLater : Client → Step → Type 0
IsLater c ToRoute = ⊥
IsLater c ToList = ⊥
IsLater c ToStart = ⊥
IsLater c (ToSync s) = is_flush c.ask.kind ≡ false
IsLater c _ = Unit {0}

pub goes_later : (A : ℕ) (t : TrackerValue) (c : Client) (k : ℕ) (step : Step) → IsLater c step → Goes A t c k → Seated A t c k step
goes_later A t c k ToRoute later goes = absurd later
goes_later A t c k ToList later goes = absurd later
goes_later A t c k ToStart later goes = absurd later
goes_later A t c k (ToLoad b got) later goes = goes
goes_later A t c k (ToHold side) later goes = goes
goes_later A t c k (ToStore b) later goes = goes
goes_later A t c k (ToSync s) later goes = record { spanless = λ e. absurd (true≢false (sym e ∙ later)); goes = λ e. goes }
goes_later A t c k (ToFree side) later goes = goes
goes_later A t c k (ToEnd v) later goes = λ e. let is : seat_at t.seats k ≡ Has goes.sits.own = goes.sits.is in cc

pub held_later : (A : ℕ) (c : Client) (side : Side) → IsLater c (held A c side)
unfolding held
held_later A c Head = choose (λ g. IsLater c g) (has A c Tail) _ _ (λ e. tt) (λ e. tt)
held_later A c Tail = tt

pub started_later : (A : ℕ) (c : Client) → IsLater c (started A c)
unfolding started
started_later A c = choose (λ g. IsLater c g) (reads c) _ _ (λ e. tt) (λ e. choose (λ g. IsLater c g) (has A c Head) _ _ (λ f. tt) (λ f. held_later A c Head))

pub loaded_later : (A : ℕ) (c : Client) (b : ℕ) (got bytes : List ℕ) → IsLater c (loaded A c b got bytes)
unfolding loaded
loaded_later A c b got bytes = choose (λ g. IsLater c g) (b == edge A c Tail) _ _ (λ e. tt) (λ e. tt)

pub stored_later : (A : ℕ) (c : Client) (b : ℕ) → writes c ≡ true → IsLater c (stored A c b)
stored_later A c b writing = stored_is (λ g. IsLater c g) A c b (λ e. tt) (λ e s lt. stores_no_flush c.ask.kind writing) (λ e. tt)

pub hold_failed_later : (A : ℕ) (c : Client) (side : Side) → IsLater c (hold_failed A c side)
unfolding hold_failed
hold_failed_later A c Head = tt
hold_failed_later A c Tail = choose (λ g. IsLater c g) (has A c Head) _ _ (λ e. tt) (λ e. tt)

pub store_failed_later : (A : ℕ) (c : Client) (b : ℕ) → IsLater c (store_failed A c b)
unfolding store_failed
store_failed_later A c b = choose (λ g. IsLater c g) (has A c Tail && not (b == edge A c Tail)) _ _ (λ e. tt) (λ e. tt)

pub present_taken : (t : TrackerValue) (k : ℕ) → seat_at t.seats k ≡ Present → seat_at t.seats k ≢ Vacant
present_taken t k is vacant = cc

pub routed_seated : (A : ℕ) (t : TrackerValue) (c : Client) (k : ℕ) → seat_at t.seats k ≡ Present → Seated A t c k (routed c)
unfolding routed
routed_seated A t c k is =
    let P : Step → Type 0 = λ g. Seated A t c k g in
    choose P (wants_writable c.ask.kind && not c.route.writable) _ _ (λ e. present_taken t k is)
    (λ may. choose P (is_flush c.ask.kind) _ _ (λ e. record { spanless = λ f. is; goes = λ f. absurd (true≢false (sym e ∙ f)) })
    (λ sync. choose P (nat_lt c.route.size (c.ask.offset + c.ask.length)) _ _ (λ e. present_taken t k is)
    (λ inside. choose P (c.ask.length == 0 || is_trim c.ask.kind) _ _ (λ e. present_taken t k is) (λ some. is))))

pub goes_taken : (A : ℕ) (t : TrackerValue) (c : Client) (k : ℕ) → Goes A t c k → seat_at t.seats k ≢ Vacant
goes_taken A t c k goes e = let is : seat_at t.seats k ≡ Has goes.sits.own = goes.sits.is in cc

-- the place of a request that syncs is taken
pub sync_taken : (A : ℕ) (t : TrackerValue) (c : Client) (k : ℕ) → SyncSeat A t c k → seat_at t.seats k ≢ Vacant
sync_taken A t c k seat = elim (either (is_flush c.ask.kind)) [
  | inl flush ↦ present_taken t k (seat.spanless flush)
  | inr write ↦ goes_taken A t c k (seat.goes write)
]

pub synced_seated : (A : ℕ) (t : TrackerValue) (c : Client) (k s : ℕ) → SyncSeat A t c k → Seated A t c k (synced A c s)
synced_seated A t c k s seat = synced_is (λ g. Seated A t c k g) A c s (sync_taken A t c k seat) (λ n lt. seat)

pub starts_goes : (A : ℕ) (t : TrackerValue) (c : Client) (k : ℕ) → Sits A t c k → Goes A (tracker_after t (Start k) Started) c k
starts_goes A t c k sits =
    let taken : seat_at t.seats k ≢ Vacant = λ e. let f : seat_at t.seats k ≡ Has sits.own = sits.is in cc in
    record {
      sits = record {
        own = record sits.own { started = true };
        is = seat_here t.seats k (going (seat_at t.seats k)) (taken_inside t.seats k taken) ∙ ap going sits.is;
        span = sits.span;
        serial = sits.serial;
      };
      started = refl;
    }

pub lists_sits : (A : ℕ) (t : TrackerValue) (c : Client) (k : ℕ) → seat_at t.seats k ≡ Present → Sits A (tracker_after t (list_op A c k) (Listed (numbered t).number)) c k
lists_sits A t c k is =
    let within : k < length (numbered t).seats = omega (arith, numbered_length t, taken_inside t.seats k (present_taken t k is)) in
    let own : Listing = record { span = aligned_out (span_of c) A; serial = serial A c; number = (numbered t).number; started = false } in
    record { own = own; is = seat_here (numbered t).seats k (Has own) within; span = refl; serial = refl }

-- the request's own place after its step
pub own_seated : (A : ℕ) (w : World) (c : Client) (d : Bool) (p : Pads) {stage : Stage} (act : Act stage) → Shaped A c stage → Seats A w.tracker c stage → MayDo A w c p act →
    ForMoved (λ q. Seats A (tracked A w.tracker c act) q.client q.stage) (moved A c d p act)
own_seated A w c d p Answers fit sits may = tt
own_seated A w c d p (Waits wait) fit sits may = sits
own_seated A w c d p (Enters k) fit sits may = seat_here w.tracker.seats k Present (free_place w.tracker.seats k may.1).0
own_seated A w c d p (Routes {k = k} route) fit sits may = routed_seated A w.tracker (record c { route = route }) k sits
own_seated A w c d p (Shuts {k = k}) fit sits may = present_taken w.tracker k sits
own_seated A w c d p (Lists {k = k} n) fit sits may = lists_sits A w.tracker c k sits
own_seated A w c d p (Starts {k = k}) fit sits may =
    goes_later A _ c k (started A c) (started_later A c) (starts_goes A w.tracker c k sits)
own_seated A w c d p (Loads {k = k} {b = b} {got = got} bytes) fit sits may =
    goes_later A w.tracker c k (loaded A c b got bytes) (loaded_later A c b got bytes) sits
own_seated A w c d p (LoadFails {k = k}) fit sits may = goes_later A w.tracker c k (ToEnd (Refused Io)) tt sits
own_seated A w c d p (Holds {k = k} {side = side} bytes) fit sits may = goes_later A w.tracker c k (held A c side) (held_later A c side) sits
own_seated A w c d p (HoldFails {k = k} {side = side}) fit sits may = goes_later A w.tracker c k (hold_failed A c side) (hold_failed_later A c side) sits
own_seated A w c d p (Stores {k = k} {b = b} bytes past) fit sits may = goes_later A w.tracker c k (stored A c b) (stored_later A c b fit.writing) sits
own_seated A w c d p (StoreFails {k = k} {b = b} bytes took past) fit sits may =
    goes_later A w.tracker c k (store_failed A c b) (store_failed_later A c b) sits
own_seated A w c d p (Syncs {k = k} {s = s}) fit sits may = synced_seated A w.tracker c k s sits
own_seated A w c d p (Cleans {k = k} {s = s}) fit sits may = synced_seated A w.tracker c k s sits
own_seated A w c d p (SyncFails {k = k}) fit sits may = sync_taken A w.tracker c k sits
own_seated A w c d p (Frees {k = k}) fit sits may = goes_later A w.tracker c k (ToEnd (Refused Io)) tt sits
own_seated A w c d p Ends fit sits may = tt

-- the tracker stays sound
pub stays_sound : (A : ℕ) (w : World) (c : Client) (p : Pads) {stage : Stage} (act : Act stage) → MayDo A w c p act → Sound w.tracker →
    Sound (tracked A w.tracker c act)
stays_sound A w c p (Enters k) may sound = after_sound w.tracker Enter (Entered k) sound may
stays_sound A w c p (Lists {k = k} n) may sound = after_sound w.tracker (list_op A c k) (Listed n) sound may
stays_sound A w c p (Starts {k = k}) may sound = after_sound w.tracker (Start k) Started sound may
stays_sound A w c p (Ends {k = k}) may sound = after_sound w.tracker (End k) Ended sound may
stays_sound A w c p _ may sound = sound
