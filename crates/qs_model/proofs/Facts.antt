-- What every state of a run keeps.
use Rattle.std.proofs.Common.{◌≡◌, ◌≢◌, ℕ, ◌-◌, ◌*◌, max, ◌<◌, ◌⊎◌, Bool, true, false, List, [], ◌∷◌, length, Option, Some, IsTrue}
use Rattle.qs_bytes.specs.Spans.{aligned_out}
use Rattle.qs_bytes.specs.declared.ask.Verdict.{Verdict}
use Rattle.qs_bytes.specs.declared.ask.Verdict.TheVariants.{Got, Fine, Refused, Dropped}
use Rattle.qs_part.specs.declared.stripe.Side.{Side}
use Rattle.qs_part.specs.declared.stripe.Side.TheVariants.{Head, Tail}
use Rattle.qs_model.specs.Requests.{Client, Pads, Req, Step, Stage, ToRoute, ToList, ToStart, ToLoad, ToHold, ToStore, ToSync, ToFree, ToEnd, Ready, Entering, In, edge, has, span_of, serial, reads, writes, pad, is_known, is_flush}
use Rattle.qs_graph.specs.Exports.{clients_of, export_at}
use Rattle.qs_tracker.specs.declared.seat.Listing.{Listing}
use Rattle.qs_tracker.specs.declared.seat.Seat.TheVariants.{Vacant, Present, Has}
use Rattle.qs_tracker.specs.Seats.{seat_at}
use Rattle.qs_tracker.specs.Table.{TrackerValue}
use Rattle.qs_tracker.proofs.Sound.{Sound as TrackerSound}
use Rattle.qs_model.specs.Worlds.{Hold, Image, Session, Away, Live, Leaving, World}
use Rattle.qs_model.proofs.Geometry.{Reaches}

-- a kind of request that there is
abbrev pub IsKind : Client → Type 0
IsKind c = is_known c.ask.kind ≡ true

-- a request that has its way and some block to read or to store
pub record Sound (c : Client) : Type 0 where
  pub kind : reads c ≡ false → writes c ≡ true
  pub some : (span_of c).lo < (span_of c).hi
  pub writable : writes c ≡ true → c.route.writable ≡ true

-- a verdict that is no success
abbrev pub IsBad : Verdict → Type 0
IsBad (Got bytes) = ⊥
IsBad Fine = ⊥
IsBad (Refused e) = Unit {0}
IsBad Dropped = Unit {0}

pub record Loading (A : ℕ) (c : Client) (b : ℕ) (got : List ℕ) : Type 0 where
  pub sound : Sound c
  pub reading : reads c ≡ true
  pub reach : Reaches A c b
  pub so_far : length got ≡ max (span_of c).lo (b * A) - (span_of c).lo

pub record Holding (A : ℕ) (c : Client) (side : Side) : Type 0 where
  pub sound : Sound c
  pub writing : writes c ≡ true
  pub wanted : has A c side ≡ true

pub record Storing (A : ℕ) (c : Client) (b : ℕ) : Type 0 where
  pub sound : Sound c
  pub writing : writes c ≡ true
  pub reach : Reaches A c b

-- a request that syncs a stripe: a FLUSH, or a write that has stored its blocks
pub record Syncing (c : Client) (s : ℕ) : Type 0 where
  pub inside : s < 8
  pub sound : is_flush c.ask.kind ≡ false → Sound c
  pub writing : is_flush c.ask.kind ≡ false → writes c ≡ true

-- a READ that is Got has as many bytes as were asked for
abbrev pub IsWhole : Client → Verdict → Type 0
IsWhole c (Got bytes) = length bytes ≡ c.ask.length
IsWhole c _ = Unit {0}

-- what the machine of one request keeps
abbrev pub Fit : ℕ → Client → Step → Type 0
Fit A c ToRoute = IsKind c
Fit A c ToList = Sound c
Fit A c ToStart = Sound c
Fit A c (ToLoad b got) = Loading A c b got
Fit A c (ToHold side) = Holding A c side
Fit A c (ToStore b) = Storing A c b
Fit A c (ToSync s) = Syncing c s
Fit A c (ToFree side) = Holding A c side
Fit A c (ToEnd v) = IsWhole c v

abbrev pub Shaped : ℕ → Client → Stage → Type 0
Shaped A c (Ready v) = IsBad v
Shaped A c Entering = IsKind c
Shaped A c (In k step) = Fit A c step

-- the request's span is listed at its place
pub record Sits (A : ℕ) (t : TrackerValue) (c : Client) (k : ℕ) : Type 0 where
  pub own : Listing
  pub is : seat_at t.seats k ≡ Has own
  pub span : own.span ≡ aligned_out (span_of c) A
  pub serial : own.serial ≡ serial A c

-- and started
pub record Goes (A : ℕ) (t : TrackerValue) (c : Client) (k : ℕ) : Type 0 where
  pub sits : Sits A t c k
  pub started : sits.own.started ≡ true

-- a FLUSH that syncs has no span, and a write that syncs goes
pub record SyncSeat (A : ℕ) (t : TrackerValue) (c : Client) (k : ℕ) : Type 0 where
  pub spanless : is_flush c.ask.kind ≡ true → seat_at t.seats k ≡ Present
  pub goes : is_flush c.ask.kind ≡ false → Goes A t c k

abbrev pub Seated : ℕ → TrackerValue → Client → ℕ → Step → Type 0
Seated A t c k ToRoute = seat_at t.seats k ≡ Present
Seated A t c k ToList = seat_at t.seats k ≡ Present
Seated A t c k ToStart = Sits A t c k
Seated A t c k (ToLoad b got) = Goes A t c k
Seated A t c k (ToHold side) = Goes A t c k
Seated A t c k (ToStore b) = Goes A t c k
Seated A t c k (ToSync s) = SyncSeat A t c k
Seated A t c k (ToFree side) = Goes A t c k
Seated A t c k (ToEnd v) = seat_at t.seats k ≢ Vacant

abbrev pub Seats : ℕ → TrackerValue → Client → Stage → Type 0
Seats A t c (In k step) = Seated A t c k step
Seats A t c _ = Unit {0}

-- the holds that are open at a step
abbrev pub IsOpen : ℕ → Client → Step → Side → Type 0
IsOpen A c (ToHold Tail) Head = has A c Head ≡ true
IsOpen A c (ToStore b) Head = (has A c Head ≡ true) × (b ≡ edge A c Head)
IsOpen A c (ToStore b) Tail = has A c Tail ≡ true
IsOpen A c (ToFree Head) Head = Unit {0}
IsOpen A c (ToFree Tail) Tail = Unit {0}
IsOpen A c _ _ = ⊥

-- an open hold: the block is held, and holds what the pad has
pub record Held (A : ℕ) (tells : Bool) (i : Image) (c : Client) (p : Pads) (k : ℕ) (side : Side) : Type 0 where
  pub held : i.holder (edge A c side) ≡ Some (record { place = k; side = side })
  pub same : IsTrue tells → i.now (edge A c side) ≡ pad p side

abbrev pub Keeps : ℕ → Bool → Image → Client → Pads → Stage → Type 0
Keeps A tells i c p (In k step) = (side : Side) → IsOpen A c step side → Held A tells i c p k side
Keeps A tells i c p _ = Unit {0}

-- all that is kept of one request
pub record Well (A : ℕ) (tells : Bool) (t : TrackerValue) (i : Image) (q : Req) : Type 0 where
  pub shaped : Shaped A q.client q.stage
  pub seated : Seats A t q.client q.stage
  pub kept : Keeps A tells i q.client q.pads q.stage

-- a hold is an open one of a request
abbrev pub IsHolder : ℕ → Client → Stage → Hold → ℕ → Type 0
IsHolder A c (In k step) h b = (k ≡ h.place) × IsOpen A c step h.side × (edge A c h.side ≡ b)
IsHolder A c _ h b = ⊥

pub record Owner (A : ℕ) (req : ℕ → Option Req) (h : Hold) (b : ℕ) : Type 0 where
  pub number : ℕ
  pub request : Req
  pub is : req number ≡ Some request
  pub holds : IsHolder A request.client request.stage h b

-- the place of the tracker that a request has
abbrev pub IsAt : Stage → ℕ → Type 0
IsAt (In j step) k = j ≡ k
IsAt _ k = ⊥

-- a taken place is a request's
pub record Manned (req : ℕ → Option Req) (k : ℕ) : Type 0 where
  pub number : ℕ
  pub request : Req
  pub is : req number ≡ Some request
  pub at : IsAt request.stage k

-- a session at an export
abbrev pub IsClient : Session → ℕ → Type 0
IsClient Away e = ⊥
IsClient (Live d) e = d ≡ e
IsClient (Leaving d) e = d ≡ e

-- a session stands in a list
abbrev pub Among : ℕ → List ℕ → Type 0
Among s [] = ⊥
Among s (x ∷ xs) = (x ≡ s) ⊎ Among s xs

-- all that is kept
pub record Ok (A : ℕ) (w : World) : Type 0 where
  pub below : (r : ℕ) (q : Req) → w.req r ≡ Some q → r < w.next
  pub well : (r : ℕ) (q : Req) → w.req r ≡ Some q → Well A w.tells w.tracker w.image q
  pub one : (r s : ℕ) (q p : Req) (k : ℕ) → w.req r ≡ Some q → w.req s ≡ Some p → IsAt q.stage k → IsAt p.stage k → r ≡ s
  pub owned : (b : ℕ) (h : Hold) → w.image.holder b ≡ Some h → Owner A w.req h b
  pub manned : (k : ℕ) → seat_at w.tracker.seats k ≢ Vacant → Manned w.req k
  pub tracker : TrackerSound w.tracker
  pub sessions : (s e : ℕ) → IsClient (w.session s) e → Among s (w.clients e)
  pub counts : (e : ℕ) → length (w.clients e) ≡ clients_of (export_at w.graph.places e)
