-- The machine of a request is the model's, row by row.
use Rattle.std.proofs.Common.{◌≡◌, ℕ, Bool, List, refl, sym, ap}
use Rattle.qs_part.specs.declared.graph.Route.{Route}
use Rattle.qs_part.specs.declared.tracker.TrackerReply.TheVariants.{Entered, Quiesced, Full, Listed, Strange, Started, NotYet, Ended}
use Rattle.qs_part.specs.declared.graph.GraphReply.TheVariants.{Shutting, Routed}
use Rattle.qs_part.specs.declared.stripe.StripeReply.TheVariants.{Filled, Fault, HeldBy, Taken, Done, Freed, NotHeld, Clean, Synced}
use Rattle.qs_model.specs.Requests.{Client, Pads, Req, Stage, In, ToRoute, loaded, held, keep, routed}
use Rattle.qs_model.specs.Acts.{Act, Waits, Enters, Routes, Shuts, Lists, Starts, Loads, LoadFails, Holds, HoldFails, Stores, StoreFails, Syncs, Cleans, SyncFails, Frees, Ends, Wait, Quiesced as WasQuiesced, Full as WasFull, NotYet as WasNotYet, HeldBy as WasHeldBy, Taken as WasTaken, Strange as WasStrange, NotHeld as WasNotHeld}
use Rattle.qs_model.specs.Steps.{moved}
use Rattle.qs_model.specs.Histories.{answer_of}
use Rattle.qs_request.specs.declared.todo.PartReply.{PartReply}
use Rattle.qs_request.specs.declared.todo.PartReply.TheVariants.{Tracker, Graph, Stripe}
use Rattle.qs_request.specs.Table.{followed}
use Rattle.qs_request.specs.Rows.{IsWait, IsRow, IsLed}

abbrev pub as_it_stands : Client → Bool → Pads → Stage → Req
as_it_stands c d p stage = record { client = c; dropped = d; pads = p; stage = stage }

-- an answer that leaves a request where it is
pub waits_stay : (A : ℕ) (c : Client) (d : Bool) (p : Pads) (stage : Stage) (reply : PartReply) (wait : Wait) → IsWait reply wait →
    followed A (as_it_stands c d p stage) reply ≡ as_it_stands c d p stage
waits_stay A c d p stage (Tracker Quiesced) WasQuiesced is = refl
waits_stay A c d p stage (Tracker Full) WasFull is = refl
waits_stay A c d p stage (Tracker (NotYet n)) (WasNotYet m) is = refl
waits_stay A c d p stage (Tracker Strange) WasStrange is = refl
waits_stay A c d p stage (Stripe (HeldBy j buf)) (WasHeldBy i) is = refl
waits_stay A c d p stage (Stripe (Taken b buf)) (WasTaken e) is = refl
waits_stay A c d p stage (Stripe NotHeld) WasNotHeld is = refl
waits_stay A c d p stage reply wait is = absurd is

-- a reply and the row that it stands for lead to the same request
pub row_leads : (A : ℕ) (c : Client) (d : Bool) (p : Pads) {stage : Stage} (act : Act stage) (reply : PartReply) → IsRow reply act →
    IsLed (moved A c d p act) (answer_of d act) (followed A (as_it_stands c d p stage) reply)
row_leads A c d p (Waits {stage = stage} wait) reply is = waits_stay A c d p stage reply wait is
row_leads A c d p (Enters k) (Tracker (Entered j)) is = ap (λ (n : ℕ). as_it_stands c d p (In n ToRoute)) (sym is)
row_leads A c d p (Routes {k = k} route) (Graph (Routed way)) is =
    ap (λ (r : Route). as_it_stands (record c { route = r }) d p (In k (routed (record c { route = r })))) (sym is)
row_leads A c d p Shuts (Graph Shutting) is = refl
row_leads A c d p (Lists m) (Tracker (Listed n)) is = refl
row_leads A c d p Starts (Tracker Started) is = refl
row_leads A c d p (Loads {k = k} {b = b} {got = got} bytes) (Stripe (Filled buf)) is =
    ap (λ (xs : List ℕ). as_it_stands c d p (In k (loaded A c b got xs))) (sym is)
row_leads A c d p LoadFails (Stripe (Fault back)) is = refl
row_leads A c d p (Holds {k = k} {side = side} bytes) (Stripe (Filled buf)) is =
    ap (λ (xs : List ℕ). as_it_stands c d (keep p side xs) (In k (held A c side))) (sym is)
row_leads A c d p HoldFails (Stripe (Fault back)) is = refl
row_leads A c d p (Stores bytes past) (Stripe (Done back)) is = refl
row_leads A c d p (StoreFails bytes took past) (Stripe (Fault back)) is = refl
row_leads A c d p Syncs (Stripe Synced) is = refl
row_leads A c d p Cleans (Stripe Clean) is = refl
row_leads A c d p SyncFails (Stripe (Fault back)) is = refl
row_leads A c d p Frees (Stripe Freed) is = refl
row_leads A c d p Ends (Tracker Ended) is = refl
row_leads A c d p act reply is = absurd is
