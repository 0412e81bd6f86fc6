-- The note of an operation: its kind, its block or stripe, and its answer without buffers and tables.
use Rattle.std.specs.Prelude.{ℕ, Some, None}
use Rattle.qs_part.specs.declared.event.OpKind.{OpKind}
use Rattle.qs_part.specs.declared.event.OpKind.TheVariants.{Enter, List, Start, End, Load, Hold, Store, Free, Sync, Route, Detach}
use Rattle.qs_part.specs.declared.event.StripeNote.{StripeNote}
use Rattle.qs_part.specs.declared.event.StripeNote.TheVariants.{Filled, Fault, HeldBy, Taken, Done, Freed, NotHeld, Clean, Synced}
use Rattle.qs_part.specs.declared.event.Note.{Note}
use Rattle.qs_part.specs.declared.event.NoteReply.TheVariants.{Tracker as OfTracker, Graph as OfGraph, Stripe as OfStripe}
use Rattle.qs_part.specs.declared.event.GraphNote.{GraphNote}
use Rattle.qs_part.specs.declared.event.GraphNote.TheVariants.{NotAttached, Detached, Shutting, Routed}
use Rattle.qs_part.specs.declared.graph.GraphReply.{GraphReply}
use Rattle.qs_part.specs.declared.graph.GraphReply.TheVariants.{Detached as DetachedReply, Routed as RoutedReply}
use Rattle.qs_part.specs.declared.tracker.TrackerOp.{TrackerOp}
use Rattle.qs_part.specs.declared.tracker.TrackerOp.TheVariants.{Enter as EnterOp, List as ListOp, Start as StartOp}
use Rattle.qs_part.specs.declared.tracker.TrackerReply.{TrackerReply}
use Rattle.qs_part.specs.declared.stripe.StripeOp.{StripeOp}
use Rattle.qs_part.specs.declared.stripe.StripeOp.TheVariants.{Load as LoadOp, Hold as HoldOp, Store as StoreOp, Free as FreeOp, Sync as SyncOp}
use Rattle.qs_part.specs.declared.stripe.StripeReply.{StripeReply}
use Rattle.qs_part.specs.declared.stripe.StripeReply.TheVariants.{Filled as FilledReply, Fault as FaultReply, HeldBy as HeldByReply, Taken as TakenReply, Done as DoneReply, Freed as FreedReply, NotHeld as NotHeldReply, Clean as CleanReply, Synced as SyncedReply}

-- a request does no other operation of the tracker
abbrev pub tracker_kind : TrackerOp → OpKind
tracker_kind EnterOp = Enter
tracker_kind (ListOp k span serial) = List
tracker_kind (StartOp k) = Start
tracker_kind _ = End

abbrev pub stripe_kind : StripeOp → OpKind
stripe_kind (LoadOp b k buf) = Load
stripe_kind (HoldOp b k end buf) = Hold
stripe_kind (StoreOp b k buf) = Store
stripe_kind (FreeOp b k) = Free
stripe_kind SyncOp = Sync

-- the block of an operation on stripe s, or the stripe where it is on no block
abbrev pub note_place : ℕ → StripeOp → ℕ
note_place s (LoadOp b k buf) = b
note_place s (HoldOp b k end buf) = b
note_place s (StoreOp b k buf) = b
note_place s (FreeOp b k) = b
note_place s SyncOp = s

-- a stripe's answer without its buffer
abbrev pub short : StripeReply → StripeNote
short (FilledReply buf) = Filled
short (FaultReply back) = Fault
short (HeldByReply j buf) = HeldBy j
short (TakenReply b buf) = Taken b
short (DoneReply buf) = Done
short FreedReply = Freed
short NotHeldReply = NotHeld
short CleanReply = Clean
short SyncedReply = Synced

abbrev pub tracker_note : OpKind → TrackerReply → Note
tracker_note kind reply = record { kind = kind; at = None; reply = OfTracker reply }

-- a Route is answered by the way, or by Shutting
abbrev pub route_answer : GraphReply → GraphNote
route_answer (RoutedReply way) = Routed way
route_answer _ = Shutting

abbrev pub route_note : GraphReply → Note
route_note reply = record { kind = Route; at = None; reply = OfGraph (route_answer reply) }

-- a Detach by Detached, or by NotAttached
abbrev pub detach_answer : GraphReply → GraphNote
detach_answer DetachedReply = Detached
detach_answer _ = NotAttached

abbrev pub detach_note : GraphReply → Note
detach_note reply = record { kind = Detach; at = None; reply = OfGraph (detach_answer reply) }

abbrev pub stripe_note : OpKind → ℕ → StripeReply → Note
stripe_note kind at reply = record { kind = kind; at = Some at; reply = OfStripe (short reply) }
