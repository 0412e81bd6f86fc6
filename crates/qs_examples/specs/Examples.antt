-- Runs of the core over an image of two blocks of 4 bytes, 1 2 3 4 and 5 6 7 8: one session and one request each.
use Rattle.std.specs.Prelude.{ℕ, true, false, List, [], ◌∷◌, ◌==◌, Some, None, if◌then◌else◌}
use Rattle.qs_bytes.specs.declared.ask.Kind.{Kind}
use Rattle.qs_bytes.specs.declared.ask.Kind.TheVariants.{Read, Write}
use Rattle.qs_bytes.specs.declared.ask.Errno.TheVariants.{Inval, Io}
use Rattle.qs_bytes.specs.declared.ask.Verdict.TheVariants.{Dropped, Got, Refused}
use Rattle.qs_outside.specs.Rigged.{no_plans}
use Rattle.qs_part.specs.declared.event.OpKind.TheVariants.{Detach, Enter, List as ListOp, Start, End, Load, Hold as HoldOp, Free, Route as RouteOp}
use Rattle.qs_part.specs.declared.event.StripeNote.TheVariants.{Fault, Filled, Freed}
use Rattle.qs_part.specs.declared.event.NoteReply.TheVariants.{Tracker as OfTracker, Graph as OfGraph, Stripe as OfStripe}
use Rattle.qs_part.specs.declared.event.Outcome.{Outcome}
use Rattle.qs_part.specs.declared.event.Outcome.TheVariants.{Attached as AttachedOut, Left as LeftOut, Made, Answered}
use Rattle.qs_part.specs.declared.tracker.TrackerReply.TheVariants.{Entered, Listed, Started, Ended}
use Rattle.qs_part.specs.declared.graph.GraphOp.TheVariants.{ExportAdd}
use Rattle.qs_part.specs.declared.event.GraphNote.TheVariants.{Detached as DetachedNote, Routed}
use Rattle.qs_part.specs.declared.graph.Route.{Route}
use Rattle.qs_part.specs.declared.stripe.Side.TheVariants.{Head, Tail}
use Rattle.qs_model.specs.Requests.{Client, Pads, Req, Stage, no_route, ToRoute, ToList, ToStart, ToLoad, ToHold, ToFree, ToEnd, Entering, In}
use Rattle.qs_model.specs.Worlds.{Opening}
use Rattle.qs_model.specs.Acts.{Enters, Routes, Lists, Starts, Loads, Holds, HoldFails, Frees, Ends, Element, Attached, Asked, Did, Exported, Left, Detached}
use Rattle.qs_model.specs.Example.{info, note, pads, image_route}

abbrev pub first_half : List ℕ
first_half = 1 ∷ 2 ∷ 3 ∷ 4 ∷ []

abbrev pub second : List ℕ
second = 5 ∷ 6 ∷ 7 ∷ 8 ∷ []

abbrev pub block : ℕ → List ℕ
block b = if b == 0 then first_half else second

abbrev pub small_opening : Opening
small_opening = record {
  tells = true;
  plans = λ j. no_plans;
  now = block;
  past = λ b. block b ∷ [];
  clean = λ s. true;
  size = 8;
  file = 102 ∷ [];
  read_only = false;
}

-- the client of a READ or WRITE of two bytes at a place
abbrev pub client : Kind → ℕ → List ℕ → Route → Client
client kind offset body route = record {
  session = 1;
  export = 0;
  ask = record { kind = kind; fua = false; flags_fit = true; cookie = 1; offset = offset; length = 2 };
  body = body;
  buffered = true;
  route = route;
}

abbrev pub request : Client → Pads → Stage → Req
request c p stage = record { client = c; dropped = false; pads = p; stage = stage }

abbrev pub no_pads : Pads
no_pads = pads [] []

-- session 1 attaches to the export that is the whole image, and its request is made and enters
abbrev pub entered : (Route → Client) → List Element → List Element
entered c es =
    Exported (ExportAdd (101 ∷ []) (100 ∷ []) (102 ∷ []) true false) 0
    ∷ Attached 1 (100 ∷ []) info
    ∷ Asked 0 (c no_route)
    ∷ Did 0 (request (c no_route) no_pads Entering) (Enters 0)
    ∷ es

abbrev pub entered_answers : List Outcome → List Outcome
entered_answers os = AttachedOut info ∷ Made 0 ∷ note Enter None (OfTracker (Entered 0)) ∷ os

-- the request has its way
abbrev pub routed : (Route → Client) → List Element → List Element
routed c es = entered c (Did 0 (request (c no_route) no_pads (In 0 ToRoute)) (Routes image_route) ∷ es)

abbrev pub routed_answers : List Outcome → List Outcome
routed_answers os = entered_answers (note RouteOp None (OfGraph (Routed image_route)) ∷ os)

-- its span is listed and goes
abbrev pub started : (Route → Client) → List Element → List Element
started c es = routed c (
    Did 0 (request (c image_route) no_pads (In 0 ToList)) (Lists 0)
    ∷ Did 0 (request (c image_route) no_pads (In 0 ToStart)) Starts
    ∷ es)

abbrev pub started_answers : List Outcome → List Outcome
started_answers os = routed_answers (note ListOp None (OfTracker (Listed 0)) ∷ note Start None (OfTracker Started) ∷ os)

-- a READ at 3
abbrev pub reader : Route → Client
reader = client Read 3 []

abbrev pub reading : List Element
reading = started reader (
    Did 0 (request (reader image_route) no_pads (In 0 (ToLoad 0 []))) (Loads first_half)
    ∷ Did 0 (request (reader image_route) no_pads (In 0 (ToLoad 1 (4 ∷ [])))) (Loads second)
    ∷ Did 0 (request (reader image_route) no_pads (In 0 (ToEnd (Got (4 ∷ 5 ∷ []))))) Ends
    ∷ [])

abbrev pub reading_answers : List Outcome
reading_answers = started_answers (
    note Load (Some 0) (OfStripe Filled)
    ∷ note Load (Some 1) (OfStripe Filled)
    ∷ Answered (Got (4 ∷ 5 ∷ [])) (Some (record { kind = End; at = None; reply = OfTracker Ended }))
    ∷ [])

-- a WRITE at 3, whose tail can't be loaded
abbrev pub writer : Route → Client
writer = client Write 3 (9 ∷ 9 ∷ [])

abbrev pub failing : List Element
failing = started writer (
    Did 0 (request (writer image_route) no_pads (In 0 (ToHold Head))) (Holds first_half)
    ∷ Did 0 (request (writer image_route) (pads first_half []) (In 0 (ToHold Tail))) HoldFails
    ∷ Did 0 (request (writer image_route) (pads first_half []) (In 0 (ToFree Head))) Frees
    ∷ Did 0 (request (writer image_route) (pads first_half []) (In 0 (ToEnd (Refused Io)))) Ends
    ∷ [])

abbrev pub failing_answers : List Outcome
failing_answers = started_answers (
    note HoldOp (Some 0) (OfStripe Filled)
    ∷ note HoldOp (Some 1) (OfStripe Fault)
    ∷ note Free (Some 0) (OfStripe Freed)
    ∷ Answered (Refused Io) (Some (record { kind = End; at = None; reply = OfTracker Ended }))
    ∷ [])

-- a READ at 3, whose session leaves
abbrev pub dropping : List Element
dropping = entered reader (
    Left 1 0
    ∷ Did 0 (record { client = reader no_route; dropped = true; pads = no_pads; stage = In 0 (ToEnd Dropped) }) Ends
    ∷ Detached 1 0
    ∷ [])

abbrev pub dropping_answers : List Outcome
dropping_answers = entered_answers (
    LeftOut
    ∷ Answered Dropped (Some (record { kind = End; at = None; reply = OfTracker Ended }))
    ∷ note Detach None (OfGraph DetachedNote)
    ∷ [])

-- a READ at 7, whose last byte would be behind the end
abbrev pub outsider : Route → Client
outsider = client Read 7 []

abbrev pub refusing : List Element
refusing = routed outsider (Did 0 (request (outsider image_route) no_pads (In 0 (ToEnd (Refused Inval)))) Ends ∷ [])

abbrev pub refusing_answers : List Outcome
refusing_answers = routed_answers (Answered (Refused Inval)
    (Some (record { kind = End; at = None; reply = OfTracker Ended })) ∷ [])
