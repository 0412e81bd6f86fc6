-- A run that a crash ends: a WRITE_ZEROES of the second block, and then a FLUSH, over two blocks of 4 bytes, 1 2 3 4
-- and 5 6 7 8.
use Rattle.std.specs.Prelude.{true, false, List, [], ◌∷◌, ◌++◌}
use Rattle.qs_bytes.specs.declared.ask.Kind.TheVariants.{Zero}
use Rattle.qs_bytes.specs.declared.ask.Verdict.TheVariants.{Fine}
use Rattle.qs_part.specs.declared.graph.Route.{Route}
use Rattle.qs_model.specs.Requests.{Client, no_route, ToRoute, ToStore, ToSync, ToEnd, Entering, In}
use Rattle.qs_model.specs.Acts.{Enters, Routes, Stores, Syncs, Cleans, Ends, Element, Asked, Did, Crashed}
use Rattle.qs_model.specs.Example.{image_route, zeros}
use Rattle.qs_examples.specs.Examples.{block, no_pads, request, second, started}
use Rattle.qs_examples.specs.OtherKinds.{flusher}

-- a WRITE_ZEROES of the second block, without FUA
abbrev pub durable_zeroer : Route → Client
durable_zeroer route = record {
  session = 1;
  export = 0;
  ask = record { kind = Zero; fua = false; flags_fit = true; cookie = 1; offset = 4; length = 4 };
  body = [];
  buffered = true;
  route = route;
}

-- it is acknowledged; a crash may leave the old block or the zeros
abbrev pub acknowledged : List Element
acknowledged = started durable_zeroer (
    Did 0 (request (durable_zeroer image_route) no_pads (In 0 (ToStore 1))) (Stores zeros (second ∷ zeros ∷ []))
    ∷ Did 0 (request (durable_zeroer image_route) no_pads (In 0 (ToEnd Fine))) Ends
    ∷ [])

-- the FLUSH syncs stripe 0, which has both blocks; the others are clean
abbrev pub syncing : List Element
syncing =
    Did 1 (request (flusher no_route) no_pads (In 0 ToRoute)) (Routes image_route)
    ∷ Did 1 (request (flusher image_route) no_pads (In 0 (ToSync 0))) Syncs
    ∷ Did 1 (request (flusher image_route) no_pads (In 0 (ToSync 1))) Cleans
    ∷ Did 1 (request (flusher image_route) no_pads (In 0 (ToSync 2))) Cleans
    ∷ Did 1 (request (flusher image_route) no_pads (In 0 (ToSync 3))) Cleans
    ∷ Did 1 (request (flusher image_route) no_pads (In 0 (ToSync 4))) Cleans
    ∷ Did 1 (request (flusher image_route) no_pads (In 0 (ToSync 5))) Cleans
    ∷ Did 1 (request (flusher image_route) no_pads (In 0 (ToSync 6))) Cleans
    ∷ Did 1 (request (flusher image_route) no_pads (In 0 (ToSync 7))) Cleans
    ∷ []

abbrev pub asked_elements : List Element
asked_elements = acknowledged ++ Asked 1 (flusher no_route) ∷ []

abbrev pub flushed : List Element
flushed =
    asked_elements ++ Did 1 (request (flusher no_route) no_pads Entering) (Enters 0)
    ∷ (syncing ++ Did 1 (request (flusher image_route) no_pads (In 0 (ToEnd Fine))) Ends ∷ [])

-- a crash that leaves both blocks as they were at the opening
abbrev pub lost : Element
lost = Crashed block
