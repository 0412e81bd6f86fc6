-- The laws of every run from an opening world, whichever actor is next and whatever the disks answer.
use Rattle.std.specs.Prelude.{◌≡◌, ◌≢◌, ◌↔◌, ℕ, ◌-◌, ◌*◌, ◌⊎◌, true, List, [], ◌∷◌, ◌++◌, length, filter, get_or, Some, IsTrue}
use Rattle.qs_bytes.specs.declared.ask.Verdict.TheVariants.{Got, Fine}
use Rattle.qs_bytes.specs.Spans.{Covers, aligned_out}
use Rattle.qs_cells.specs.declared.cell.CellEntry.{CellEntry}
use Rattle.qs_cells.specs.declared.cell.CellEntry.TheVariants.{Read, Write}
use Rattle.qs_cells.specs.Cells.{value_after, Legal}
use Rattle.qs_part.specs.declared.graph.Route.{Route}
use Rattle.qs_part.specs.declared.tracker.TrackerOp.TheVariants.{Start}
use Rattle.qs_part.specs.declared.tracker.TrackerReply.TheVariants.{Started}
use Rattle.qs_tracker.specs.declared.seat.Listing.{Listing}
use Rattle.qs_tracker.specs.declared.seat.Seat.TheVariants.{Vacant}
use Rattle.qs_tracker.specs.Seats.{Conflict, seat_at}
use Rattle.qs_tracker.specs.Table.{TrackerValue, May as TrackerMay}
use Rattle.qs_tracker.specs.History.{IsListedStarted, IsLowest}
use Rattle.qs_model.specs.Requests.{Client, Req, Step, In, span_of, covers, serial, body_at, writes}
use Rattle.qs_model.specs.Worlds.{World, Opening, byte_at, new_world}
use Rattle.qs_model.specs.Acts.{Element, Asked, Did, Exported, Planned, Crashed}
use Rattle.qs_model.specs.Steps.{world_after}
use Rattle.qs_part.specs.declared.event.Event.{Event}
use Rattle.qs_part.specs.declared.event.Outcome.{Outcome}
use Rattle.qs_model.specs.Events.{outcome_of, IsEvent}
use Rattle.qs_model.specs.Histories.{cell, cell_at, is_entry_of, Acts, Answered, IsAnswer, IsAsk, IsStore, IsStoreOf, IsRouted, IsOddStep, IsEntry}

-- the core as it was made
abbrev pub opening_world : Opening → World
opening_world o = new_world 0 o

-- in the list es, e is the step behind `before`
abbrev pub ComesBehind : List Element → Element → List Element → Type 0
ComesBehind before e es = (behind : List Element) × (es ≡ before ++ e ∷ behind)

-- the list es begins with `before`
abbrev pub Begins : List Element → List Element → Type 0
Begins before es = (behind : List Element) × (es ≡ before ++ behind)

-- a step that may change the byte at x: a store by a write that covers it, or a crash
abbrev pub Alters : ℕ → ℕ → Element → Type 0
Alters A x (Did r q act) = IsStoreOf A x q.client act
Alters A x (Crashed left) = Unit {0}
Alters A x _ = ⊥

-- Only a store by a write that covers it, or a crash, changes a byte; at every position it is what its history leaves.
pub record Covered (A : ℕ) (w : World) (es : List Element) : Type 0 where
  pub now : (x : ℕ) (before : List Element) → Begins before es →
      byte_at A (world_after A w before).image x ≡ value_after (byte_at A w.image x) (cell A x before)
  pub still : (x : ℕ) (before : List Element) (e : Element) → ComesBehind before e es → (Alters A x e → ⊥) →
      byte_at A (world_after A w (before ++ e ∷ [])).image x ≡ byte_at A (world_after A w before).image x

-- each byte's reads and writes are one legal history of a single cell
abbrev pub Histories : ℕ → World → List Element → Type 0
Histories A w es = (x : ℕ) → Legal (byte_at A w.image x) (cell A x es)

-- some step made the request
abbrev pub WasAsked : ℕ → List Element → Type 0
WasAsked r [] = ⊥
WasAsked r (e ∷ es) = IsAsk r e ⊎ WasAsked r es

-- no step answered it
abbrev pub Unanswered : ℕ → List Element → Type 0
Unanswered r [] = Unit {0}
Unanswered r (e ∷ es) = (IsAnswer r e → ⊥) × Unanswered r es

-- A request is asked once. Whatever it does stands between its Ask and its answer, its entries too.
pub record Between (es : List Element) : Type 0 where
  pub once : (r : ℕ) (before : List Element) (e : Element) → ComesBehind before e es → IsAsk r e → WasAsked r before → ⊥
  pub within : (r : ℕ) (before : List Element) (e : Element) → ComesBehind before e es → Acts r e →
      WasAsked r before × Unanswered r before

-- the entries of a request of the byte at x
abbrev pub entries : ℕ → ℕ → ℕ → List Element → List CellEntry
entries A x r es = filter (is_entry_of r) (cell A x es)

-- the byte of a READ's reply for a place
abbrev pub reply_at : Client → List ℕ → ℕ → ℕ
reply_at c bytes x = get_or bytes (x - (span_of c).lo) 0

-- A READ that is Got has as many bytes as were asked for. It has read each byte that it covers
-- exactly once, and its reply has that value.
pub record ReadsOnce (A : ℕ) (es : List Element) : Type 0 where
  pub whole : (r : ℕ) (c : Client) (bytes : List ℕ) (before : List Element) (e : Element) → ComesBehind before e es →
      Answered r c (Got bytes) e → length bytes ≡ c.ask.length
  pub once : (r : ℕ) (c : Client) (bytes : List ℕ) (before : List Element) (e : Element) → ComesBehind before e es →
      Answered r c (Got bytes) e → (x : ℕ) → covers c x ≡ true → entries A x r before ≡ Read r (reply_at c bytes x) ∷ []

-- A write that is Fine has written each byte that it covers exactly once, and no disk refused it.
abbrev pub WritesOnce : ℕ → List Element → Type 0
WritesOnce A es = (r : ℕ) (c : Client) (before : List Element) (e : Element) → ComesBehind before e es →
    Answered r c Fine e → writes c ≡ true → (x : ℕ) → covers c x ≡ true →
    entries A x r before ≡ Write r (body_at c x) ∷ []

-- Between two block entries of a serialising request no block entry of another stands on a block of
-- its span aligned outward.
abbrev pub Undivided : ℕ → List Element → Type 0
Undivided A es =
    (r s : ℕ) (c d : Client) (m n b : ℕ) (first other last : Element) (before middle rest behind : List Element) →
    es ≡ before ++ first ∷ (middle ++ other ∷ (rest ++ last ∷ behind)) →
    IsEntry A r c m first → IsEntry A r c n last → serial A c ≡ true →
    IsEntry A s d b other → Covers (aligned_out (span_of c) A) (b * A) → s ≡ r

-- A Hold or Store is never answered HeldBy or Taken, a request's List, Start, End and Free never
-- Strange or NotHeld, a session's Detach never NotAttached.
abbrev pub NeverOdd : List Element → Type 0
NeverOdd es = (before : List Element) (e : Element) → ComesBehind before e es → IsOddStep e → ⊥

-- some step gave the request this way
abbrev pub WasRouted : ℕ → Route → List Element → Type 0
WasRouted r route [] = ⊥
WasRouted r route (e ∷ es) = IsRouted r route e ⊎ WasRouted r route es

-- A store belongs to a request whose way is writable, and the graph gave it that way.
abbrev pub Writable : List Element → Type 0
Writable es = (r : ℕ) (c : Client) (before : List Element) (e : Element) → ComesBehind before e es → IsStore r c e →
    (c.route.writable ≡ true) × WasRouted r c.route before

-- no request stores a block, nor tries to
abbrev pub NoStore : List Element → Type 0
NoStore es = (r : ℕ) (c : Client) (before : List Element) (e : Element) → ComesBehind before e es → IsStore r c e → ⊥

-- Of the spans that go no two conflict, and of all listed spans the one of lowest number can start.
pub record Ordered (t : TrackerValue) : Type 0 where
  pub apart : (j k : ℕ) (l m : Listing) → IsListedStarted t j l → IsListedStarted t k m → Conflict l m → j ≡ k
  pub lowest : (k : ℕ) (l : Listing) → IsLowest t k l → TrackerMay t (Start k) Started

-- and so at every position
abbrev pub Tracked : ℕ → World → List Element → Type 0
Tracked A w es = (before : List Element) → Begins before es → Ordered (world_after A w before).tracker

-- a request in flight: it is between Entered and Ended, at place k
pub record InFlight (w : World) (r k : ℕ) : Type 0 where
  pub request : Req
  pub step : Step
  pub is : w.req r ≡ Some request
  pub stage : request.stage ≡ In k step

-- the tracker is drained: no request is in flight
abbrev pub IsDrained : World → Type 0
IsDrained w = (r k : ℕ) → InFlight w r k → ⊥

-- Requests in flight have distinct places, each of these is taken, and no other place is. So no
-- place is taken exactly where the tracker is drained.
pub record Placed (w : World) : Type 0 where
  pub taken : (r k : ℕ) → InFlight w r k → seat_at w.tracker.seats k ≢ Vacant
  pub one : (r s k : ℕ) → InFlight w r k → InFlight w s k → r ≡ s
  pub manned : (k : ℕ) → seat_at w.tracker.seats k ≢ Vacant → (r : ℕ) × InFlight w r k
  pub drained : ((k : ℕ) → seat_at w.tracker.seats k ≡ Vacant) ↔ IsDrained w

-- and so at every position
abbrev pub InPlace : ℕ → World → List Element → Type 0
InPlace A w es = (before : List Element) → Begins before es → Placed (world_after A w before)

-- the making of an export, a planned failure, and a crash
abbrev pub IsOutside : Element → Type 0
IsOutside (Exported op e) = Unit {0}
IsOutside (Planned j fail) = Unit {0}
IsOutside (Crashed left) = Unit {0}
IsOutside _ = ⊥

-- Every other step is an event's, and has one outcome.
abbrev pub Evented : ℕ → List Element → Type 0
Evented A es = (before : List Element) (e : Element) → ComesBehind before e es →
    IsOutside e ⊎ ((event : Event) × (outcome : Outcome) × (IsEvent event e × (outcome_of A e ≡ Some outcome)))

-- a step is a READ's entry of the byte at x
abbrev pub IsRead : ℕ → ℕ → ℕ → Element → Type 0
IsRead A x r e = (v : ℕ) × (cell_at A x e ≡ Read r v ∷ [])

-- a step is an entry of the byte at x by the request of this number
pub record IsEntryOf (A x r : ℕ) (e : Element) : Type 0 where
  pub entry : CellEntry
  pub is : cell_at A x e ≡ entry ∷ []
  pub own : is_entry_of r entry ≡ true

-- some step answered the request
abbrev pub WasAnswered : ℕ → List Element → Type 0
WasAnswered r [] = ⊥
WasAnswered r (e ∷ es) = IsAnswer r e ⊎ WasAnswered r es

-- Behind these steps a session has seen the entry e of the byte at x, which stands behind `front`: it is an entry of
-- one of its requests, and that request was answered.
pub record HasSeen (A x session : ℕ) (steps front : List Element) (e : Element) : Type 0 where
  pub stands : ComesBehind front e steps
  pub number : ℕ
  pub entry : IsEntryOf A x number e
  pub made : List Element
  pub client : Client
  pub asked : ComesBehind made (Asked number client) steps
  pub own : client.session ≡ session
  pub answered : WasAnswered number steps

-- A read behind these steps stands behind every entry that its session had seen when it asked.
pub record IsNoneOlder (A x r : ℕ) (before : List Element) : Type 0 where
  pub made : List Element
  pub client : Client
  pub asked : ComesBehind made (Asked r client) before
  pub seen : (front : List Element) (e : Element) → HasSeen A x client.session made front e → ComesBehind front e before

abbrev pub NoneOlder : ℕ → List Element → Type 0
NoneOlder A es = (x r : ℕ) (before : List Element) (e : Element) → ComesBehind before e es → IsRead A x r e →
    IsNoneOlder A x r before

-- The headline, clause by clause: each byte's reads and writes form one legal history of a single cell, none older
-- than its session had seen; only a write covering a byte changes it; a padded write is undivided. Where the disks
-- tell no content, nothing is said of the bytes.
pub record Headline (A : ℕ) (w : World) (es : List Element) : Type 0 where
  pub one_history : IsTrue w.tells → Histories A w es
  pub none_older : NoneOlder A es
  pub covered : IsTrue w.tells → Covered A w es
  pub undivided : Undivided A es

-- What is kept besides: when requests act, what each READ and WRITE has done once, no odd answer, no store without
-- leave and none over a read-only file node, the order of spans, places, and that each step is an event's.
pub record Besides (A : ℕ) (w : World) (es : List Element) : Type 0 where
  pub between : Between es
  pub reads_once : ReadsOnce A es
  pub writes_once : WritesOnce A es
  pub never_odd : NeverOdd es
  pub writable : Writable es
  pub read_only : w.graph.read_only ≡ true → NoStore es
  pub tracked : Tracked A w es
  pub in_place : InPlace A w es
  pub evented : Evented A es
