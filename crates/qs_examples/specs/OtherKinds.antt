-- Runs of the other kinds of request, over the same image: a FLUSH, a WRITE_ZEROES with FUA, and a TRIM that may not
-- be.
use Rattle.std.specs.Prelude.{true, false, not, List, [], ◌∷◌, ◌==◌, Some, None}
use Rattle.qs_bytes.specs.declared.ask.Kind.TheVariants.{Zero, Trim, Flush}
use Rattle.qs_bytes.specs.declared.ask.Errno.TheVariants.{Perm}
use Rattle.qs_bytes.specs.declared.ask.Verdict.TheVariants.{Fine, Refused}
use Rattle.qs_part.specs.declared.event.OpKind.TheVariants.{Enter, End, Store, Sync, Route as RouteOp}
use Rattle.qs_part.specs.declared.event.StripeNote.TheVariants.{Clean, Done, Synced}
use Rattle.qs_part.specs.declared.event.NoteReply.TheVariants.{Tracker as OfTracker, Graph as OfGraph, Stripe as OfStripe}
use Rattle.qs_part.specs.declared.event.Outcome.{Outcome}
use Rattle.qs_part.specs.declared.event.Outcome.TheVariants.{Attached as AttachedOut, Made, Answered}
use Rattle.qs_part.specs.declared.tracker.TrackerReply.TheVariants.{Entered, Ended}
use Rattle.qs_part.specs.declared.graph.GraphOp.TheVariants.{ExportAdd}
use Rattle.qs_part.specs.declared.event.GraphNote.TheVariants.{Routed}
use Rattle.qs_part.specs.declared.graph.ExportInfo.{ExportInfo}
use Rattle.qs_part.specs.declared.graph.Route.{Route}
use Rattle.qs_model.specs.Requests.{Client, no_route, ToRoute, ToStore, ToSync, ToEnd, Entering, In}
use Rattle.qs_model.specs.Worlds.{Opening}
use Rattle.qs_model.specs.Acts.{Enters, Routes, Stores, Syncs, Cleans, Ends, Element, Attached, Asked, Did, Exported}
use Rattle.qs_model.specs.Example.{info, note, image_route, zeros}
use Rattle.qs_examples.specs.Examples.{client, no_pads, small_opening, request, routed, routed_answers, second, started, started_answers}

-- something was stored on stripe 0 since its last sync
abbrev pub dirty : Opening
dirty = record small_opening { clean = λ s. not (s == 0) }

-- a FLUSH; the places that it names, behind the end, say nothing
abbrev pub flusher : Route → Client
flusher = client Flush 9 []

abbrev pub flushing : List Element
flushing = routed flusher (
    Did 0 (request (flusher image_route) no_pads (In 0 (ToSync 0))) Syncs
    ∷ Did 0 (request (flusher image_route) no_pads (In 0 (ToSync 1))) Cleans
    ∷ Did 0 (request (flusher image_route) no_pads (In 0 (ToSync 2))) Cleans
    ∷ Did 0 (request (flusher image_route) no_pads (In 0 (ToSync 3))) Cleans
    ∷ Did 0 (request (flusher image_route) no_pads (In 0 (ToSync 4))) Cleans
    ∷ Did 0 (request (flusher image_route) no_pads (In 0 (ToSync 5))) Cleans
    ∷ Did 0 (request (flusher image_route) no_pads (In 0 (ToSync 6))) Cleans
    ∷ Did 0 (request (flusher image_route) no_pads (In 0 (ToSync 7))) Cleans
    ∷ Did 0 (request (flusher image_route) no_pads (In 0 (ToEnd Fine))) Ends
    ∷ [])

abbrev pub flushing_answers : List Outcome
flushing_answers = routed_answers (
    note Sync (Some 0) (OfStripe Synced)
    ∷ note Sync (Some 1) (OfStripe Clean)
    ∷ note Sync (Some 2) (OfStripe Clean)
    ∷ note Sync (Some 3) (OfStripe Clean)
    ∷ note Sync (Some 4) (OfStripe Clean)
    ∷ note Sync (Some 5) (OfStripe Clean)
    ∷ note Sync (Some 6) (OfStripe Clean)
    ∷ note Sync (Some 7) (OfStripe Clean)
    ∷ Answered Fine (Some (record { kind = End; at = None; reply = OfTracker Ended }))
    ∷ [])

-- a WRITE_ZEROES of the second block, with FUA
abbrev pub zeroer : Route → Client
zeroer route = record {
  session = 1;
  export = 0;
  ask = record { kind = Zero; fua = true; flags_fit = true; cookie = 1; offset = 4; length = 4 };
  body = [];
  buffered = true;
  route = route;
}

abbrev pub zeroing : List Element
zeroing = started zeroer (
    Did 0 (request (zeroer image_route) no_pads (In 0 (ToStore 1))) (Stores zeros (second ∷ zeros ∷ []))
    ∷ Did 0 (request (zeroer image_route) no_pads (In 0 (ToSync 0))) Syncs
    ∷ Did 0 (request (zeroer image_route) no_pads (In 0 (ToEnd Fine))) Ends
    ∷ [])

abbrev pub zeroing_answers : List Outcome
zeroing_answers = started_answers (
    note Store (Some 1) (OfStripe Done)
    ∷ note Sync (Some 0) (OfStripe Synced)
    ∷ Answered Fine (Some (record { kind = End; at = None; reply = OfTracker Ended }))
    ∷ [])

-- the same image, read-only, and an export that may be read alone
abbrev pub locked : Opening
locked = record small_opening { read_only = true }

abbrev pub read_info : ExportInfo
read_info = record info { writable = false }

abbrev pub read_way : Route
read_way = record image_route { writable = false }

-- a TRIM at 3
abbrev pub trimmer : Route → Client
trimmer = client Trim 3 []

abbrev pub trimming : List Element
trimming =
    Exported (ExportAdd (101 ∷ []) (100 ∷ []) (102 ∷ []) false false) 0
    ∷ Attached 1 (100 ∷ []) read_info
    ∷ Asked 0 (trimmer no_route)
    ∷ Did 0 (request (trimmer no_route) no_pads Entering) (Enters 0)
    ∷ Did 0 (request (trimmer no_route) no_pads (In 0 ToRoute)) (Routes read_way)
    ∷ Did 0 (request (trimmer read_way) no_pads (In 0 (ToEnd (Refused Perm)))) Ends
    ∷ []

abbrev pub trimming_answers : List Outcome
trimming_answers =
    AttachedOut read_info
    ∷ Made 0
    ∷ note Enter None (OfTracker (Entered 0))
    ∷ note RouteOp None (OfGraph (Routed read_way))
    ∷ Answered (Refused Perm) (Some (record { kind = End; at = None; reply = OfTracker Ended }))
    ∷ []
