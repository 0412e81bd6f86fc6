-- Each row keeps what is traced of its request: which holds are open, and whether its place has a span.
use Rattle.std.proofs.Common.{◌≡◌, ℕ, ◌+◌, ◌<◌, ◌≤◌, inl, inr, Bool, true, false, not, ◌&&◌, ◌||◌, ◌==◌, cond, nat_lt, List, refl, sym, ap, ◌∙◌, arith, true≢false, eq-eqb, ne_eqb}
use Rattle.qs_bytes.specs.declared.ask.Kind.{Kind}
use Rattle.qs_bytes.specs.declared.ask.Kind.TheVariants.{Read, Write, Zero, Trim, Flush, Unknown}
use Rattle.qs_bytes.specs.declared.ask.Verdict.TheVariants.{Refused}
use Rattle.qs_bytes.specs.declared.ask.Errno.TheVariants.{Io}
use Rattle.qs_part.specs.declared.stripe.Side.{Side}
use Rattle.qs_part.specs.declared.stripe.Side.TheVariants.{Head, Tail}
use Rattle.qs_tracker.specs.declared.seat.Seat.TheVariants.{Present}
use Rattle.qs_tracker.specs.Seats.{seat_at}
use Rattle.qs_tracker.specs.Table.{TrackerValue}
use Rattle.qs_tracker.specs.History.{SameSeat}
use Rattle.qs_model.specs.Requests.{Client, Pads, Step, Stage, ToRoute, ToList, ToStart, ToLoad, ToHold, ToStore, ToSync, ToFree, ToEnd, Ready, Entering, In, edge, has, is_flush, is_read, is_trim, stores_bytes, wants_writable, reads, routed, held, started, loaded, stored, synced, hold_failed, store_failed, abandoned}
use Rattle.qs_model.specs.Worlds.{World}
use Rattle.qs_model.specs.Acts.{Act, Answers, Waits, Enters, Routes, Shuts, Lists, Starts, Loads, LoadFails, Holds, HoldFails, Stores, StoreFails, Syncs, Cleans, SyncFails, Frees, Ends}
use Rattle.qs_model.specs.Guards.{MayDo}
use Rattle.qs_model.specs.Steps.{moved, tracked}
use Rattle.qs_model.proofs.Basics.{choose, either}
use Rattle.qs_model.proofs.Facts.{IsAt, Shaped, Seats, Sits, Sound, Syncing, SyncSeat}
use Rattle.qs_model.proofs.Geometry.{Reaches}
use Rattle.qs_model.proofs.Machine.{ForMoved}
use Rattle.qs_model.proofs.Places.{IsLater, held_later, hold_failed_later, loaded_later, started_later, starts_goes, store_failed_later, stored_later}
use Rattle.qs_model.proofs.Others.{same_present, same_sits}
use Rattle.qs_model.proofs.Syncing.{stored_is, synced_is}
use Rattle.qs_verdicts.specs.Kept.{is_spanless}
use Rattle.qs_verdicts.specs.Traces.{Trace, traced_row, with_kept, with_stored}

-- whether the hold of a side is open at a step
abbrev pub open_at : ℕ → Client → Step → Side → Bool
open_at A c (ToHold Tail) Head = has A c Head
open_at A c (ToStore b) Head = has A c Head && b == edge A c Head
open_at A c (ToStore b) Tail = has A c Tail
open_at A c (ToFree Head) Head = true
open_at A c (ToFree Tail) Tail = true
open_at A c _ _ = false

-- what is open of a request is what its stage says
abbrev pub Opens : ℕ → Client → Step → Trace → Type 0
Opens A c step t = (t.head ≡ open_at A c step Head) × (t.tail ≡ open_at A c step Tail)

-- At the end of a request: one that was listed has its span, and isn't a FLUSH or a TRIM; one that wasn't has none.
pub record EndAt (A : ℕ) (v : TrackerValue) (c : Client) (k : ℕ) (t : Trace) : Type 0 where
  pub sits : t.listed ≡ true → Sits A v c k
  pub present : t.listed ≡ false → seat_at v.seats k ≡ Present
  pub spanned : t.listed ≡ true → is_spanless c.ask.kind ≡ false

-- whether the span was listed
abbrev pub ListedAt : ℕ → TrackerValue → Client → ℕ → Step → Trace → Type 0
ListedAt A v c k ToRoute t = t.listed ≡ false
ListedAt A v c k ToList t = t.listed ≡ false
ListedAt A v c k (ToSync s) t = (is_flush c.ask.kind ≡ true → t.listed ≡ false) × (is_flush c.ask.kind ≡ false → t.listed ≡ true)
ListedAt A v c k (ToEnd answer) t = EndAt A v c k t
ListedAt A v c k _ t = t.listed ≡ true

abbrev pub TraceAt : ℕ → TrackerValue → Client → Stage → Trace → Type 0
TraceAt A v c (Ready answer) t = Unit {0}
TraceAt A v c Entering t = (t.listed ≡ false) × (t.head ≡ false) × (t.tail ≡ false)
TraceAt A v c (In k step) t = ListedAt A v c k step t × Opens A c step t

-- a request that reads or stores is no FLUSH and no TRIM
pub sound_spanned : (c : Client) → Sound c → is_spanless c.ask.kind ≡ false
sound_spanned c sound = go c.ask.kind sound.kind
  where
    go : (k : Kind) → (is_read k ≡ false → stores_bytes k ≡ true) → is_spanless k ≡ false
    go Read h = refl
    go Write h = refl
    go Zero h = refl
    go Trim h = absurd (true≢false (sym (h refl)))
    go Flush h = absurd (true≢false (sym (h refl)))
    go (Unknown n) h = refl

pub listed_end : (A : ℕ) (v : TrackerValue) (c : Client) (k : ℕ) (t : Trace) → t.listed ≡ true → Sits A v c k → Sound c → EndAt A v c k t
listed_end A v c k t listed sits sound = record {
  sits = λ _. sits;
  present = λ h. absurd (true≢false (sym listed ∙ h));
  spanned = λ _. sound_spanned c sound;
}

pub unlisted_end : (A : ℕ) (v : TrackerValue) (c : Client) (k : ℕ) (t : Trace) → t.listed ≡ false → seat_at v.seats k ≡ Present → EndAt A v c k t
unlisted_end A v c k t listed there = record {
  sits = λ h. absurd (true≢false (sym h ∙ listed));
  present = λ _. there;
  spanned = λ h. absurd (true≢false (sym h ∙ listed));
}

-- a request that sits at its place and was listed
pub on_listed : (A : ℕ) (v : TrackerValue) (c : Client) (k : ℕ) (t : Trace) (step : Step) → IsLater c step → t.listed ≡ true → Sits A v c k → Sound c →
    ListedAt A v c k step t
on_listed A v c k t ToRoute later listed sits sound = absurd later
on_listed A v c k t ToList later listed sits sound = absurd later
on_listed A v c k t ToStart later listed sits sound = absurd later
on_listed A v c k t (ToLoad b got) later listed sits sound = listed
on_listed A v c k t (ToHold side) later listed sits sound = listed
on_listed A v c k t (ToStore b) later listed sits sound = listed
on_listed A v c k t (ToSync s) later listed sits sound = (λ flush. absurd (true≢false (sym flush ∙ later)), λ _. listed)
on_listed A v c k t (ToFree side) later listed sits sound = listed
on_listed A v c k t (ToEnd answer) later listed sits sound = listed_end A v c k t listed sits sound

-- a request that syncs, at its end: a FLUSH has no span
pub sync_end : (A : ℕ) (v : TrackerValue) (c : Client) (k s : ℕ) (t : Trace) → SyncSeat A v c k → Syncing c s → ListedAt A v c k (ToSync s) t → EndAt A v c k t
sync_end A v c k s t seat fit at = elim (either (is_flush c.ask.kind)) [
  | inl flush ↦ unlisted_end A v c k t (at.0 flush) (seat.spanless flush)
  | inr other ↦ listed_end A v c k t (at.1 other) (seat.goes other).sits (fit.sound other)
]

pub synced_trace : (A : ℕ) (v : TrackerValue) (c : Client) (k s : ℕ) (t : Trace) → SyncSeat A v c k → Syncing c s → ListedAt A v c k (ToSync s) t →
    (t.head ≡ false) × (t.tail ≡ false) → ListedAt A v c k (synced A c s) t × Opens A c (synced A c s) t
synced_trace A v c k s t seat fit at shut =
    synced_is (λ g. ListedAt A v c k g t × Opens A c g t) A c s (sync_end A v c k s t seat fit at, shut) (λ u small. (at, shut))

-- the open holds after each kind of row
and_true : (a b : Bool) → b ≡ true → (a && b) ≡ a
and_true true true h = refl
and_true false b h = refl
and_true true false h = absurd (true≢false (sym h))

and_false : (a b : Bool) → b ≡ false → (a && b) ≡ false
and_false true b h = h
and_false false b h = refl

self_eq : (n : ℕ) → (n == n) ≡ true
self_eq n = eq-eqb n n refl

pub held_opens : (A : ℕ) (c : Client) (side : Side) (t : Trace) → has A c side ≡ true → Opens A c (ToHold side) t → Opens A c (held A c side) (with_kept t side true)
unfolding held
held_opens A c Head t wanted opens =
    choose (λ g. Opens A c g (with_kept t Head true)) (has A c Tail) _ _
    (λ _. (sym wanted, opens.1))
    (λ none. (sym (and_true (has A c Head) (edge A c Head == edge A c Head) (self_eq (edge A c Head)) ∙ wanted), opens.1 ∙ sym none))
held_opens A c Tail t wanted opens =
    (opens.0 ∙ sym (and_true (has A c Head) (edge A c Head == edge A c Head) (self_eq (edge A c Head))), sym wanted)

pub started_opens : (A : ℕ) (c : Client) (t : Trace) → Opens A c ToStart t → Opens A c (started A c) t
unfolding started held
started_opens A c t opens =
    choose (λ g. Opens A c g t) (reads c) _ _ (λ _. opens)
    (λ _. choose (λ g. Opens A c g t) (has A c Head) _ _ (λ _. opens)
    (λ no_head. choose (λ g. Opens A c g t) (has A c Tail) _ _ (λ _. (opens.0 ∙ sym no_head, opens.1))
    (λ no_tail. (opens.0 ∙ sym (ap (λ (b : Bool). b && edge A c Head == edge A c Head) no_head), opens.1 ∙ sym no_tail))))

pub loaded_opens : (A : ℕ) (c : Client) (b : ℕ) (got bytes : List ℕ) (t : Trace) → Opens A c (ToLoad b got) t → Opens A c (loaded A c b got bytes) t
unfolding loaded
loaded_opens A c b got bytes t opens = choose (λ g. Opens A c g t) (b == edge A c Tail) _ _ (λ _. opens) (λ _. opens)

pub hold_failed_opens : (A : ℕ) (c : Client) (side : Side) (t : Trace) → Opens A c (ToHold side) t → Opens A c (hold_failed A c side) t
unfolding hold_failed
hold_failed_opens A c Head t opens = opens
hold_failed_opens A c Tail t opens = choose (λ g. Opens A c g t) (has A c Head) _ _ (λ yes. (opens.0 ∙ yes, opens.1)) (λ none. (opens.0 ∙ none, opens.1))

-- the head's hold is gone after a store
stored_head : (A : ℕ) (c : Client) (b : ℕ) (t : Trace) → Opens A c (ToStore b) t → (with_stored A c t b).head ≡ false
stored_head A c b t opens = go (b == edge A c Head) refl
  where
    go : (s : Bool) → (b == edge A c Head) ≡ s → cond s false t.head ≡ false
    go true h = refl
    go false h = opens.0 ∙ and_false (has A c Head) (b == edge A c Head) h

past_edge : (b e : ℕ) → e ≤ b → (b + 1 == e) ≡ false
past_edge b e h = ne_eqb (b + 1) e (λ same. omega (arith, h, same))

pub stored_opens : (A : ℕ) (c : Client) (b : ℕ) (t : Trace) → Reaches A c b → Opens A c (ToStore b) t → Opens A c (stored A c b) (with_stored A c t b)
stored_opens A c b t reach opens =
    stored_is (λ g. Opens A c g (with_stored A c t b)) A c b shut (λ over s small. shut over)
    (λ more. (
      stored_head A c b t opens ∙ sym (and_false (has A c Head) (b + 1 == edge A c Head) (past_edge b (edge A c Head) reach.first)),
      ap (λ (s : Bool). cond s false t.tail) more ∙ opens.1,
    ))
  where
    shut : (b == edge A c Tail) ≡ true → ((with_stored A c t b).head ≡ false) × ((with_stored A c t b).tail ≡ false)
    shut over = (stored_head A c b t opens, ap (λ (s : Bool). cond s false t.tail) over)

pub store_failed_opens : (A : ℕ) (c : Client) (b : ℕ) (t : Trace) → Opens A c (ToStore b) t → Opens A c (store_failed A c b) (with_stored A c t b)
unfolding store_failed
store_failed_opens A c b t opens = go (has A c Tail) (b == edge A c Tail) refl refl
  where
    go : (x y : Bool) → has A c Tail ≡ x → (b == edge A c Tail) ≡ y → Opens A c (cond (x && not y) (ToFree Tail) (ToEnd (Refused Io))) (with_stored A c t b)
    go true true h e = (stored_head A c b t opens, ap (λ (s : Bool). cond s false t.tail) e)
    go true false h e = (stored_head A c b t opens, ap (λ (s : Bool). cond s false t.tail) e ∙ opens.1 ∙ h)
    go false true h e = (stored_head A c b t opens, ap (λ (s : Bool). cond s false t.tail) e)
    go false false h e = (stored_head A c b t opens, ap (λ (s : Bool). cond s false t.tail) e ∙ opens.1 ∙ h)

pub freed_opens : (A : ℕ) (c : Client) (side : Side) (t : Trace) → Opens A c (ToFree side) t → (with_kept t side false).head ≡ false × (with_kept t side false).tail ≡ false
freed_opens A c Head t opens = (refl, opens.1)
freed_opens A c Tail t opens = (opens.0, refl)

-- a request that has its way, or ends without a span
pub routed_trace : (A : ℕ) (v : TrackerValue) (c : Client) (k : ℕ) (t : Trace) → t.listed ≡ false → (t.head ≡ false) × (t.tail ≡ false) → seat_at v.seats k ≡ Present →
    ListedAt A v c k (routed c) t × Opens A c (routed c) t
unfolding routed
routed_trace A v c k t listed shut there =
    let P : Step → Type 0 = λ g. ListedAt A v c k g t × Opens A c g t in
    let ends : EndAt A v c k t = unlisted_end A v c k t listed there in
    choose P (wants_writable c.ask.kind && not c.route.writable) _ _ (λ _. (ends, shut))
    (λ _. choose P (is_flush c.ask.kind) _ _ (λ flush. ((λ _. listed, λ other. absurd (true≢false (sym flush ∙ other))), shut))
    (λ _. choose P (nat_lt c.route.size (c.ask.offset + c.ask.length)) _ _ (λ _. (ends, shut))
    (λ _. choose P (c.ask.length == 0 || is_trim c.ask.kind) _ _ (λ _. (ends, shut)) (λ _. (listed, shut)))))

-- keeping or giving up a block says nothing of the span
kept_listed : (t : Trace) (side : Side) (b : Bool) → (with_kept t side b).listed ≡ t.listed
kept_listed t Head b = refl
kept_listed t Tail b = refl

-- what is traced of a request after one of its rows
pub row_trace : (A : ℕ) (w : World) (c : Client) (d : Bool) (p : Pads) {stage : Stage} (act : Act stage) (t : Trace) → 0 < A → MayDo A w c p act → Shaped A c stage →
    Seats A w.tracker c stage → TraceAt A w.tracker c stage t →
    ForMoved (λ q. TraceAt A (tracked A w.tracker c act) q.client q.stage (traced_row A t c act)) (moved A c d p act)
row_trace A w c d p Answers t pos may fit seats at = tt
row_trace A w c d p (Waits wait) t pos may fit seats at = at
row_trace A w c d p (Enters k) t pos may fit seats at = (at.0, (at.1, at.2))
row_trace A w c d p (Routes {k = k} route) t pos may fit seats at = routed_trace A w.tracker (record c { route = route }) k t at.0 at.1 seats
row_trace A w c d p (Shuts {k = k}) t pos may fit seats at = (unlisted_end A w.tracker c k t at.0 seats, at.1)
row_trace A w c d p (Lists {k = k} n) t pos may fit seats at = (refl, at.1)
row_trace A w c d p (Starts {k = k}) t pos may fit seats at =
    (on_listed A _ c k t (started A c) (started_later A c) at.0 (starts_goes A w.tracker c k seats).sits fit, started_opens A c t at.1)
row_trace A w c d p (Loads {k = k} {b = b} {got = got} bytes) t pos may fit seats at =
    (on_listed A w.tracker c k t (loaded A c b got bytes) (loaded_later A c b got bytes) at.0 seats.sits fit.sound, loaded_opens A c b got bytes t at.1)
row_trace A w c d p (LoadFails {k = k}) t pos may fit seats at = (listed_end A w.tracker c k t at.0 seats.sits fit.sound, at.1)
row_trace A w c d p (Holds {k = k} {side = side} bytes) t pos may fit seats at = (
  on_listed A w.tracker c k (with_kept t side true) (held A c side) (held_later A c side) (kept_listed t side true ∙ at.0) seats.sits fit.sound,
  held_opens A c side t fit.wanted at.1,
)
row_trace A w c d p (HoldFails {k = k} {side = side}) t pos may fit seats at =
    (on_listed A w.tracker c k t (hold_failed A c side) (hold_failed_later A c side) at.0 seats.sits fit.sound, hold_failed_opens A c side t at.1)
row_trace A w c d p (Stores {k = k} {b = b} bytes past) t pos may fit seats at =
    (on_listed A w.tracker c k (with_stored A c t b) (stored A c b) (stored_later A c b fit.writing) at.0 seats.sits fit.sound, stored_opens A c b t fit.reach at.1)
row_trace A w c d p (StoreFails {k = k} {b = b} bytes took past) t pos may fit seats at =
    (on_listed A w.tracker c k (with_stored A c t b) (store_failed A c b) (store_failed_later A c b) at.0 seats.sits fit.sound, store_failed_opens A c b t at.1)
row_trace A w c d p (Syncs {k = k} {s = s}) t pos may fit seats at = synced_trace A w.tracker c k s t seats fit at.0 at.1
row_trace A w c d p (Cleans {k = k} {s = s}) t pos may fit seats at = synced_trace A w.tracker c k s t seats fit at.0 at.1
row_trace A w c d p (SyncFails {k = k} {s = s}) t pos may fit seats at = (sync_end A w.tracker c k s t seats fit at.0, at.1)
row_trace A w c d p (Frees {k = k} {side = side}) t pos may fit seats at =
    (listed_end A w.tracker c k (with_kept t side false) (kept_listed t side false ∙ at.0) seats.sits fit.sound, freed_opens A c side t at.1)
row_trace A w c d p Ends t pos may fit seats at = tt

-- a request whose session leaves
pub left_trace : (A : ℕ) (v : TrackerValue) (c : Client) (stage : Stage) (t : Trace) → Seats A v c stage → TraceAt A v c stage t → TraceAt A v c (abandoned c stage) t
left_trace A v c (Ready answer) t seats at = tt
left_trace A v c Entering t seats at = tt
left_trace A v c (In k ToRoute) t seats at = (unlisted_end A v c k t at.0 seats, at.1)
left_trace A v c (In k ToList) t seats at = (unlisted_end A v c k t at.0 seats, at.1)
left_trace A v c (In k ToStart) t seats at = at
left_trace A v c (In k (ToLoad b got)) t seats at = at
left_trace A v c (In k (ToHold side)) t seats at = at
left_trace A v c (In k (ToStore b)) t seats at = at
left_trace A v c (In k (ToSync s)) t seats at =
    choose (λ g. ListedAt A v c k g t × Opens A c g t) (is_flush c.ask.kind) _ _
    (λ flush. (unlisted_end A v c k t (at.0.0 flush) (seats.spanless flush), at.1)) (λ _. at)
left_trace A v c (In k (ToFree side)) t seats at = at
left_trace A v c (In k (ToEnd answer)) t seats at = at

-- what is traced of a request whose place is the same, but for its number
pub same_trace : (A : ℕ) (v u : TrackerValue) (c : Client) (stage : Stage) (t : Trace) → ((k : ℕ) → IsAt stage k → SameSeat (seat_at v.seats k) (seat_at u.seats k)) →
    TraceAt A v c stage t → TraceAt A u c stage t
same_trace A v u c (Ready answer) t same at = tt
same_trace A v u c Entering t same at = at
same_trace A v u c (In k ToRoute) t same at = at
same_trace A v u c (In k ToList) t same at = at
same_trace A v u c (In k ToStart) t same at = at
same_trace A v u c (In k (ToLoad b got)) t same at = at
same_trace A v u c (In k (ToHold side)) t same at = at
same_trace A v u c (In k (ToStore b)) t same at = at
same_trace A v u c (In k (ToSync s)) t same at = at
same_trace A v u c (In k (ToFree side)) t same at = at
same_trace A v u c (In k (ToEnd answer)) t same at = (
  record {
    sits = λ h. same_sits A v u c k (same k refl) (at.0.sits h);
    present = λ h. same_present _ _ (same k refl) (at.0.present h);
    spanned = at.0.spanned;
  },
  at.1,
)
