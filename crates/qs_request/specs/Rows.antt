-- Which row of the model a reply stands for.
use Rattle.std.specs.Prelude.{◌≡◌, Option, Some, None}
use Rattle.qs_part.specs.declared.tracker.TrackerReply.TheVariants.{Entered, Quiesced, Full, Listed, Strange, Started, NotYet, Ended}
use Rattle.qs_part.specs.declared.graph.GraphReply.TheVariants.{Shutting, Routed}
use Rattle.qs_part.specs.declared.stripe.StripeReply.TheVariants.{Filled, Fault, HeldBy, Taken, Done, Freed, NotHeld, Clean, Synced}
use Rattle.qs_bytes.specs.declared.ask.Verdict.{Verdict}
use Rattle.qs_model.specs.Requests.{Req, Stage, Ready}
use Rattle.qs_model.specs.Acts.{Act, Waits, Enters, Routes, Shuts, Lists, Starts, Loads, LoadFails, Holds, HoldFails, Stores, StoreFails, Syncs, Cleans, SyncFails, Frees, Ends, Wait, Quiesced as WasQuiesced, Full as WasFull, NotYet as WasNotYet, HeldBy as WasHeldBy, Taken as WasTaken, Strange as WasStrange, NotHeld as WasNotHeld}
use Rattle.qs_request.specs.declared.todo.PartReply.{PartReply}
use Rattle.qs_request.specs.declared.todo.PartReply.TheVariants.{Tracker, Graph, Stripe}

-- the answers that leave a request where it is
abbrev pub IsWait : PartReply → Wait → Type 0
IsWait (Tracker Quiesced) WasQuiesced = Unit {0}
IsWait (Tracker Full) WasFull = Unit {0}
IsWait (Tracker (NotYet n)) (WasNotYet m) = m ≡ n
IsWait (Tracker Strange) WasStrange = Unit {0}
IsWait (Stripe (HeldBy j buf)) (WasHeldBy i) = i ≡ j
IsWait (Stripe (Taken b buf)) (WasTaken c) = c ≡ b
IsWait (Stripe NotHeld) WasNotHeld = Unit {0}
IsWait _ _ = ⊥

-- The row that a reply stands for. What a disk chose beside the reply is free in it: what a crash may leave, and
-- whether a refused store took.
abbrev pub IsRow : {stage : Stage} → PartReply → Act stage → Type 0
IsRow reply (Waits wait) = IsWait reply wait
IsRow (Tracker (Entered k)) (Enters j) = j ≡ k
IsRow (Graph (Routed route)) (Routes way) = way ≡ route
IsRow (Graph Shutting) Shuts = Unit {0}
IsRow (Tracker (Listed n)) (Lists m) = m ≡ n
IsRow (Tracker Started) Starts = Unit {0}
IsRow (Stripe (Filled buf)) (Loads bytes) = bytes ≡ buf
IsRow (Stripe (Fault back)) LoadFails = Unit {0}
IsRow (Stripe (Filled buf)) (Holds bytes) = bytes ≡ buf
IsRow (Stripe (Fault back)) HoldFails = Unit {0}
IsRow (Stripe (Done back)) (Stores bytes past) = back ≡ bytes
IsRow (Stripe (Fault back)) (StoreFails bytes took past) = back ≡ Some bytes
IsRow (Stripe Synced) Syncs = Unit {0}
IsRow (Stripe Clean) Cleans = Unit {0}
IsRow (Stripe (Fault back)) SyncFails = back ≡ None
IsRow (Stripe Freed) Frees = Unit {0}
IsRow (Tracker Ended) Ends = Unit {0}
IsRow _ _ = ⊥

-- where a row of the model leads is where the machine of this crate leads: the same request, or one
-- that is ready to answer with the row's verdict
abbrev pub IsLed : Option Req → Option Verdict → Req → Type 0
IsLed (Some q) answer here = here ≡ q
IsLed None (Some v) here = here.stage ≡ Ready v
IsLed None None here = ⊥
