-- What holds at every position of a run, of places, spans, holds, pads and clients.
use Rattle.std.specs.Prelude.{◌≡◌, ◌≢◌, ◌↔◌, ℕ, Bool, true, false, List, Some, IsTrue}
use Rattle.qs_bytes.specs.declared.ask.Kind.{Kind}
use Rattle.qs_bytes.specs.declared.ask.Kind.TheVariants.{Trim, Flush}
use Rattle.qs_bytes.specs.Spans.{aligned_out}
use Rattle.qs_part.specs.declared.stripe.Side.{Side}
use Rattle.qs_tracker.specs.declared.seat.Listing.{Listing}
use Rattle.qs_tracker.specs.declared.seat.Seat.TheVariants.{Present, Has}
use Rattle.qs_tracker.specs.Seats.{seat_at}
use Rattle.qs_model.specs.Requests.{Client, Step, ToLoad, ToHold, ToStore, ToSync, ToFree, edge, pad, serial, span_of}
use Rattle.qs_model.specs.Worlds.{Hold, World}
use Rattle.qs_model.specs.Acts.{Element}
use Rattle.qs_model.specs.Steps.{world_after}
use Rattle.qs_model.specs.Laws.{Begins, InFlight, Placed}
use Rattle.qs_verdicts.specs.Lists.{IsAmong, IsOnce}
use Rattle.qs_verdicts.specs.Traces.{attached, kept, traced}

-- the span of a request as the tracker has it: whole blocks, and serialising where it should be
pub record IsSpanOf (A : ℕ) (c : Client) (l : Listing) : Type 0 where
  pub span : l.span ≡ aligned_out (span_of c) A
  pub serial : l.serial ≡ serial A c

-- a request is at its blocks: its next operation is a Load, Hold, Store or Free
abbrev pub IsAtBlocks : Step → Type 0
IsAtBlocks (ToLoad b got) = Unit {0}
IsAtBlocks (ToHold side) = Unit {0}
IsAtBlocks (ToStore b) = Unit {0}
IsAtBlocks (ToFree side) = Unit {0}
IsAtBlocks _ = ⊥

-- its next operation may be one that ends a hold or takes another
abbrev pub IsHolding : Step → Type 0
IsHolding (ToHold side) = Unit {0}
IsHolding (ToStore b) = Unit {0}
IsHolding (ToFree side) = Unit {0}
IsHolding _ = ⊥

-- the request that has a hold on block b
pub record HasHold (A : ℕ) (w : World) (before : List Element) (h : Hold) (b : ℕ) : Type 0 where
  pub number : ℕ
  pub flight : InFlight w number h.place
  pub holding : IsHolding flight.step
  pub block : b ≡ edge A flight.request.client h.side
  pub serialising : serial A flight.request.client ≡ true
  pub open_ : kept (traced A number before) h.side ≡ true

-- a FLUSH or a TRIM has no span
abbrev pub is_spanless : Kind → Bool
is_spanless Flush = true
is_spanless Trim = true
is_spanless _ = false

-- The state behind these steps. Requests in flight have distinct places, and no other place is taken. A place has a
-- span exactly where its request was listed, and it is that request's; a FLUSH or a TRIM has none. A request at its
-- blocks has started, and so has one that syncs and is no FLUSH. The holds are exactly the blocks whose bytes a
-- request has kept and has since neither stored nor freed, head at Head and tail at Tail, each on the request's
-- serialising span; the block that a request frees is one, and the block holds what was kept of it. The clients of an
-- export are exactly the sessions that are attached to it, each once.
pub record Kept (A : ℕ) (w : World) (before : List Element) : Type 0 where
  pub placed : Placed w
  pub span : (r k : ℕ) (f : InFlight w r k) → (traced A r before).listed ≡ true →
      (l : Listing) × ((seat_at w.tracker.seats k ≡ Has l) × IsSpanOf A f.request.client l)
  pub spanless : (r k : ℕ) → InFlight w r k → (traced A r before).listed ≡ false → seat_at w.tracker.seats k ≡ Present
  pub unlisted : (r k : ℕ) (f : InFlight w r k) → is_spanless f.request.client.ask.kind ≡ true →
      seat_at w.tracker.seats k ≡ Present
  pub started : (r k : ℕ) (f : InFlight w r k) → IsAtBlocks f.step →
      (l : Listing) × ((seat_at w.tracker.seats k ≡ Has l) × (l.started ≡ true))
  pub syncing : (r k s : ℕ) (f : InFlight w r k) → f.step ≡ ToSync s → f.request.client.ask.kind ≢ Flush →
      (l : Listing) × ((seat_at w.tracker.seats k ≡ Has l) × (l.started ≡ true))
  pub held : (b : ℕ) (h : Hold) → w.image.holder b ≡ Some h → HasHold A w before h b
  pub holds : (r k : ℕ) (f : InFlight w r k) (side : Side) → kept (traced A r before) side ≡ true →
      w.image.holder (edge A f.request.client side) ≡ Some (record { place = k; side = side })
  pub frees : (r k : ℕ) (f : InFlight w r k) (side : Side) → f.step ≡ ToFree side → kept (traced A r before) side ≡ true
  pub pads : IsTrue w.tells → (r k : ℕ) (f : InFlight w r k) (side : Side) → kept (traced A r before) side ≡ true →
      w.image.now (edge A f.request.client side) ≡ pad f.request.pads side
  pub clients : (s e : ℕ) → IsAmong s (w.clients e) ↔ (attached s before ≡ Some e)
  pub once : (e : ℕ) → IsOnce (w.clients e)

-- and so at every position
abbrev pub AlwaysKept : ℕ → World → List Element → Type 0
AlwaysKept A w es = (before : List Element) → Begins before es → Kept A (world_after A w before) before
