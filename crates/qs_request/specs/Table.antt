-- The request table: the operation of each stage, the answers that may come, and what follows.
use Rattle.std.specs.Prelude.{◌≡◌, ℕ, ◌+◌, ◌*◌, ◌%◌, ◌<◌, ◌≤◌, Bool, List, length, get_or, Some, None}
use Rattle.qs_bytes.specs.declared.ask.Errno.TheVariants.{Io, Shutdown}
use Rattle.qs_bytes.specs.declared.ask.Verdict.TheVariants.{Refused}
use Rattle.qs_bytes.specs.Spans.{aligned_out}
use Rattle.qs_part.specs.declared.tracker.TrackerOp.{TrackerOp}
use Rattle.qs_part.specs.declared.tracker.TrackerOp.TheVariants.{Enter, List as ListOp, Start, End}
use Rattle.qs_part.specs.declared.tracker.TrackerReply.{TrackerReply}
use Rattle.qs_part.specs.declared.tracker.TrackerReply.TheVariants.{Entered, Quiesced, Full, Listed, Strange, Started, NotYet, Ended}
use Rattle.qs_part.specs.declared.graph.GraphReply.{GraphReply}
use Rattle.qs_part.specs.declared.graph.GraphReply.TheVariants.{Shutting, Routed}
use Rattle.qs_part.specs.declared.stripe.StripeOp.{StripeOp}
use Rattle.qs_part.specs.declared.stripe.StripeOp.TheVariants.{Load, Hold, Store, Free, Sync}
use Rattle.qs_part.specs.declared.stripe.StripeReply.{StripeReply}
use Rattle.qs_part.specs.declared.stripe.StripeReply.TheVariants.{Filled, Fault, HeldBy, Taken, Done, Freed, NotHeld, Clean, Synced}
use Rattle.qs_model.specs.Requests.{Client, Req, Stage, ToRoute, ToList, ToStart, ToLoad, ToHold, ToStore, ToSync, ToFree, ToEnd, Ready, Entering, In, Pads, edge, span_of, serial, merged_at, keep, routed, held, started, loaded, stored, hold_failed, store_failed, synced, verdict}
use Rattle.qs_bytes.specs.Geometry.{stripe_of}
use Rattle.qs_request_state.specs.declared.shape.Shape.{Shape}
use Rattle.qs_request.specs.declared.todo.Todo.{Todo}
use Rattle.qs_request.specs.declared.todo.Todo.TheVariants.{Tracker, Route, Stripe, Answer}
use Rattle.qs_request.specs.declared.todo.PartReply.{PartReply}
use Rattle.qs_request.specs.declared.todo.PartReply.TheVariants.{Tracker as ByTracker, Graph as ByGraph, Stripe as ByStripe}

-- some buffer of one block, of which P holds
abbrev pub WithBlock : ℕ → (List ℕ → Type 0) → Type 0
WithBlock A P = (buf : List ℕ) × ((length buf ≡ A) × P buf)

-- a block's content: the body's bytes where the request covers it, else the kept pad's
abbrev pub IsMerged : ℕ → Client → Pads → ℕ → List ℕ → Type 0
IsMerged A c p b buf = (x : ℕ) → x < A → get_or buf x 0 ≡ merged_at A c p b x

-- what a request does next, by its stage
abbrev pub WantsAt : ℕ → Client → Pads → Stage → Todo → Type 0
WantsAt A c p (Ready v) todo = todo ≡ Answer v
WantsAt A c p Entering todo = todo ≡ Tracker Enter
WantsAt A c p (In k ToRoute) todo = todo ≡ Route c.export
WantsAt A c p (In k ToList) todo = todo ≡ Tracker (ListOp k (aligned_out (span_of c) A) (serial A c))
WantsAt A c p (In k ToStart) todo = todo ≡ Tracker (Start k)
WantsAt A c p (In k (ToLoad b got)) todo = WithBlock A (λ buf. todo ≡ Stripe (stripe_of b) (Load b k buf))
WantsAt A c p (In k (ToHold side)) todo =
    WithBlock A (λ buf. todo ≡ Stripe (stripe_of (edge A c side)) (Hold (edge A c side) k side buf))
WantsAt A c p (In k (ToStore b)) todo =
    WithBlock A (λ buf. (todo ≡ Stripe (stripe_of b) (Store b k buf)) × IsMerged A c p b buf)
WantsAt A c p (In k (ToSync s)) todo = todo ≡ Stripe s Sync
WantsAt A c p (In k (ToFree side)) todo = todo ≡ Stripe (stripe_of (edge A c side)) (Free (edge A c side) k)
WantsAt A c p (In k (ToEnd v)) todo = todo ≡ Tracker (End k)

abbrev pub Wants : ℕ → Req → Todo → Type 0
Wants A q todo = WantsAt A q.client q.pads q.stage todo

-- block b lies inside the image, and s is the number of its stripe
pub record FitsBlock (shape : Shape) (s b : ℕ) : Type 0 where
  pub stripe : s ≡ stripe_of b
  pub inside : (b + 1) * shape.align ≤ shape.size

-- An operation of a stripe is on such a block, for a place of the tracker, with a buffer of one block. A Sync is on
-- one of the eight stripes.
abbrev pub FitsStripe : Shape → ℕ → StripeOp → Type 0
FitsStripe shape s (Load b k buf) = FitsBlock shape s b × (k < 256) × (length buf ≡ shape.align)
FitsStripe shape s (Hold b k end buf) = FitsBlock shape s b × (k < 256) × (length buf ≡ shape.align)
FitsStripe shape s (Store b k buf) = FitsBlock shape s b × (k < 256) × (length buf ≡ shape.align)
FitsStripe shape s (Free b k) = FitsBlock shape s b × (k < 256)
FitsStripe shape s Sync = s < 8

-- a span that is listed has a place, lies in the image, and its ends are multiples of 512
abbrev pub FitsTracker : Shape → TrackerOp → Type 0
FitsTracker shape (ListOp k span serial) =
    (k < 256) × (span.lo < span.hi) × (span.lo % 512 ≡ 0) × (span.hi % 512 ≡ 0) × (span.hi ≤ shape.size)
FitsTracker shape (Start k) = k < 256
FitsTracker shape (End k) = k < 256
FitsTracker shape _ = Unit {0}

-- an operation fits the part that it names, where that part is of this shape
abbrev pub FitsPart : Shape → Todo → Type 0
FitsPart shape (Tracker op) = FitsTracker shape op
FitsPart shape (Stripe s op) = FitsStripe shape s op
FitsPart shape _ = Unit {0}

-- the answers that the tracker may give, by the stage
abbrev pub MayTrack : TrackerReply → Stage → Type 0
MayTrack (Entered k) Entering = k < 256
MayTrack Quiesced Entering = Unit {0}
MayTrack Full Entering = Unit {0}
MayTrack (Listed n) (In k ToList) = Unit {0}
MayTrack Strange (In k ToList) = Unit {0}
MayTrack Started (In k ToStart) = Unit {0}
MayTrack (NotYet n) (In k ToStart) = Unit {0}
MayTrack Strange (In k ToStart) = Unit {0}
MayTrack Ended (In k (ToEnd v)) = Unit {0}
MayTrack Strange (In k (ToEnd v)) = Unit {0}
MayTrack _ _ = ⊥

-- those of the graph: a way lies inside the image
abbrev pub MayRoute : Shape → GraphReply → Stage → Type 0
MayRoute shape (Routed route) (In k ToRoute) = route.offset + route.size ≤ shape.size
MayRoute shape Shutting (In k ToRoute) = Unit {0}
MayRoute shape _ _ = ⊥

-- those of a stripe: the buffer comes back whole
abbrev pub MayStripe : Shape → StripeReply → Stage → Type 0
MayStripe shape (Filled buf) (In k (ToLoad b got)) = length buf ≡ shape.align
MayStripe shape (Fault (Some buf)) (In k (ToLoad b got)) = length buf ≡ shape.align
MayStripe shape (Filled buf) (In k (ToHold side)) = length buf ≡ shape.align
MayStripe shape (Fault (Some buf)) (In k (ToHold side)) = length buf ≡ shape.align
MayStripe shape (HeldBy j buf) (In k (ToHold side)) = length buf ≡ shape.align
MayStripe shape (Taken b buf) (In k (ToHold side)) = length buf ≡ shape.align
MayStripe shape (Done buf) (In k (ToStore b)) = length buf ≡ shape.align
MayStripe shape (Fault (Some buf)) (In k (ToStore b)) = length buf ≡ shape.align
MayStripe shape (HeldBy j buf) (In k (ToStore b)) = length buf ≡ shape.align
MayStripe shape Clean (In k (ToSync s)) = Unit {0}
MayStripe shape Synced (In k (ToSync s)) = Unit {0}
MayStripe shape (Fault None) (In k (ToSync s)) = Unit {0}
MayStripe shape Freed (In k (ToFree side)) = Unit {0}
MayStripe shape NotHeld (In k (ToFree side)) = Unit {0}
MayStripe shape _ _ = ⊥

-- what a part of this shape may answer to the operation of a stage
abbrev pub MayAnswer : Shape → Stage → PartReply → Type 0
MayAnswer shape stage (ByTracker reply) = MayTrack reply stage
MayAnswer shape stage (ByGraph reply) = MayRoute shape reply stage
MayAnswer shape stage (ByStripe reply) = MayStripe shape reply stage

abbrev pub MayReply : Shape → Req → PartReply → Type 0
MayReply shape q reply = MayAnswer shape q.stage reply

-- the stage after an answer of the tracker; an answer that isn't in the table leaves it as it was
abbrev pub after_tracker : ℕ → Client → Bool → TrackerReply → Stage → Stage
after_tracker A c d (Entered k) Entering = In k ToRoute
after_tracker A c d (Listed n) (In k ToList) = In k ToStart
after_tracker A c d Started (In k ToStart) = In k (started A c)
after_tracker A c d Ended (In k (ToEnd v)) = Ready (verdict d v)
after_tracker A c d _ stage = stage

-- the request after an answer of the graph, which gives it its way
abbrev pub after_graph : Req → GraphReply → Stage → Req
after_graph q (Routed route) (In k ToRoute) =
    record q { client = record q.client { route = route }; stage = In k (routed (record q.client { route = route })) }
after_graph q Shutting (In k ToRoute) = record q { stage = In k (ToEnd (Refused Shutdown)) }
after_graph q _ _ = q

-- the stage after an answer of a stripe
abbrev pub after_stripe : ℕ → Client → StripeReply → Stage → Stage
after_stripe A c (Filled buf) (In k (ToLoad b got)) = In k (loaded A c b got buf)
after_stripe A c (Fault back) (In k (ToLoad b got)) = In k (ToEnd (Refused Io))
after_stripe A c (Filled buf) (In k (ToHold side)) = In k (held A c side)
after_stripe A c (Fault back) (In k (ToHold side)) = In k (hold_failed A c side)
after_stripe A c (Done back) (In k (ToStore b)) = In k (stored A c b)
after_stripe A c (Fault back) (In k (ToStore b)) = In k (store_failed A c b)
after_stripe A c Clean (In k (ToSync s)) = In k (synced A c s)
after_stripe A c Synced (In k (ToSync s)) = In k (synced A c s)
after_stripe A c (Fault back) (In k (ToSync s)) = In k (ToEnd (Refused Io))
after_stripe A c Freed (In k (ToFree side)) = In k (ToEnd (Refused Io))
after_stripe A c _ stage = stage

-- a Hold gives the pad of its end
abbrev pub pads_after : Pads → StripeReply → Stage → Pads
pads_after p (Filled buf) (In k (ToHold side)) = keep p side buf
pads_after p _ _ = p

-- the machine of one request: what it is after an answer
abbrev pub followed : ℕ → Req → PartReply → Req
followed A q (ByTracker reply) = record q { stage = after_tracker A q.client q.dropped reply q.stage }
followed A q (ByGraph reply) = after_graph q reply q.stage
followed A q (ByStripe reply) =
    record q { pads = pads_after q.pads reply q.stage; stage = after_stripe A q.client reply q.stage }
