-- A padded write as a run: two bytes at 3 of an image of two blocks of 4 bytes.
use Rattle.std.specs.Prelude.{ℕ, true, false, List, [], ◌∷◌, replicate, Option, Some, None}
use Rattle.qs_bytes.specs.declared.ask.Ask.{Ask}
use Rattle.qs_bytes.specs.declared.ask.Kind.TheVariants.{Write}
use Rattle.qs_bytes.specs.declared.ask.Verdict.TheVariants.{Fine}
use Rattle.qs_outside.specs.Rigged.{no_plans}
use Rattle.qs_part.specs.declared.event.OpKind.TheVariants.{Enter, List as ListOp, Start, End, Hold as HoldOp, Store, Route as RouteOp}
use Rattle.qs_part.specs.declared.event.StripeNote.TheVariants.{Filled, Done}
use Rattle.qs_part.specs.declared.event.NoteReply.{NoteReply}
use Rattle.qs_part.specs.declared.event.NoteReply.TheVariants.{Tracker as OfTracker, Graph as OfGraph, Stripe as OfStripe}
use Rattle.qs_part.specs.declared.event.OpKind.{OpKind}
use Rattle.qs_part.specs.declared.event.Outcome.{Outcome}
use Rattle.qs_part.specs.declared.event.Outcome.TheVariants.{Attached as AttachedOut, Made, Moved, Answered}
use Rattle.qs_part.specs.declared.tracker.TrackerReply.TheVariants.{Entered, Listed, Started, Ended}
use Rattle.qs_part.specs.declared.graph.GraphOp.TheVariants.{ExportAdd}
use Rattle.qs_part.specs.declared.event.GraphNote.TheVariants.{Routed}
use Rattle.qs_part.specs.declared.graph.ExportInfo.{ExportInfo}
use Rattle.qs_part.specs.declared.graph.Route.{Route}
use Rattle.qs_part.specs.declared.stripe.Side.TheVariants.{Head, Tail}
use Rattle.qs_model.specs.Requests.{Client, Pads, Req, Stage, no_route, ToRoute, ToList, ToStart, ToHold, ToStore, ToEnd, Entering, In}
use Rattle.qs_model.specs.Worlds.{Opening}
use Rattle.qs_model.specs.Acts.{Enters, Routes, Lists, Starts, Holds, Stores, Ends, Element, Attached, Asked, Did, Exported}

abbrev pub zeros : List ℕ
zeros = 0 ∷ 0 ∷ 0 ∷ 0 ∷ []

-- the way of an export that is the whole image
abbrev pub image_route : Route
image_route = record { offset = 0; size = 8; writable = true; groups = replicate 8 (0, 0); count = 0 }

abbrev pub info : ExportInfo
info = record { e = 0; size = 8; writable = true }

abbrev pub example_ask : Ask
example_ask = record { kind = Write; fua = false; flags_fit = true; cookie = 1; offset = 3; length = 2 }

abbrev pub example_client : Route → Client
example_client route = record {
  session = 1;
  export = 0;
  ask = example_ask;
  body = 7 ∷ 8 ∷ [];
  buffered = true;
  route = route;
}

abbrev pub pads : List ℕ → List ℕ → Pads
pads head tail = record { head = head; tail = tail }

abbrev pub padded_request : Route → Pads → Stage → Req
padded_request route p stage = record { client = example_client route; dropped = false; pads = p; stage = stage }

-- the core over an image of two blocks of zeros
abbrev pub padded_opening : Opening
padded_opening = record {
  tells = true;
  plans = λ j. no_plans;
  now = λ b. zeros;
  past = λ b. zeros ∷ [];
  clean = λ s. true;
  size = 8;
  file = 102 ∷ [];
  read_only = false;
}

-- a session attaches, asks, and its request goes its way to the answer
abbrev pub padded : List Element
padded =
    Exported (ExportAdd (101 ∷ []) (100 ∷ []) (102 ∷ []) true false) 0
    ∷ Attached 1 (100 ∷ []) info
    ∷ Asked 0 (example_client no_route)
    ∷ Did 0 (padded_request no_route (pads [] []) Entering) (Enters 0)
    ∷ Did 0 (padded_request no_route (pads [] []) (In 0 ToRoute)) (Routes image_route)
    ∷ Did 0 (padded_request image_route (pads [] []) (In 0 ToList)) (Lists 0)
    ∷ Did 0 (padded_request image_route (pads [] []) (In 0 ToStart)) Starts
    ∷ Did 0 (padded_request image_route (pads [] []) (In 0 (ToHold Head))) (Holds zeros)
    ∷ Did 0 (padded_request image_route (pads zeros []) (In 0 (ToHold Tail))) (Holds zeros)
    ∷ Did 0 (padded_request image_route (pads zeros zeros) (In 0 (ToStore 0)))
    (Stores (0 ∷ 0 ∷ 0 ∷ 7 ∷ []) (zeros ∷ (0 ∷ 0 ∷ 0 ∷ 7 ∷ []) ∷ []))
    ∷ Did 0 (padded_request image_route (pads zeros zeros) (In 0 (ToStore 1)))
    (Stores (8 ∷ 0 ∷ 0 ∷ 0 ∷ []) (zeros ∷ (8 ∷ 0 ∷ 0 ∷ 0 ∷ []) ∷ []))
    ∷ Did 0 (padded_request image_route (pads zeros zeros) (In 0 (ToEnd Fine))) Ends
    ∷ []

abbrev pub note : OpKind → Option ℕ → NoteReply → Outcome
note kind at reply = Moved (record { kind = kind; at = at; reply = reply })

-- what its steps answer
abbrev pub example_outcomes : List Outcome
example_outcomes =
    AttachedOut info
    ∷ Made 0
    ∷ note Enter None (OfTracker (Entered 0))
    ∷ note RouteOp None (OfGraph (Routed image_route))
    ∷ note ListOp None (OfTracker (Listed 0))
    ∷ note Start None (OfTracker Started)
    ∷ note HoldOp (Some 0) (OfStripe Filled)
    ∷ note HoldOp (Some 1) (OfStripe Filled)
    ∷ note Store (Some 0) (OfStripe Done)
    ∷ note Store (Some 1) (OfStripe Done)
    ∷ Answered Fine (Some (record { kind = End; at = None; reply = OfTracker Ended }))
    ∷ []
