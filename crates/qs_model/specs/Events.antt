-- The events of the core, and its outcomes, as a run's steps have them.
use Rattle.std.specs.Prelude.{◌≡◌, ◌≢◌, ℕ, ◌⊎◌, Bool, true, false, List, [], length, Option, Some, None}
use Rattle.qs_part.specs.declared.event.Actor.TheVariants.{Session as ASession, Request as ARequest}
use Rattle.qs_part.specs.declared.event.Event.{Event}
use Rattle.qs_part.specs.declared.event.Event.TheVariants.{Attach, Leave, Ask as AskEvent, Step as StepEvent}
use Rattle.qs_part.specs.declared.event.OpKind.{OpKind}
use Rattle.qs_part.specs.declared.event.OpKind.TheVariants.{Enter, List as ListOp, Start, End, Load, Hold as HoldOp, Store, Free, Sync, Detach, Route as RouteOp}
use Rattle.qs_part.specs.declared.event.StripeNote.{StripeNote}
use Rattle.qs_part.specs.declared.event.StripeNote.TheVariants.{Filled, Fault, HeldBy as HeldByNote, Taken as TakenNote, Done, Freed, NotHeld as NotHeldNote, Clean, Synced}
use Rattle.qs_part.specs.declared.event.NoteReply.TheVariants.{Tracker as OfTracker, Graph as OfGraph, Stripe as OfStripe}
use Rattle.qs_part.specs.declared.event.Note.{Note}
use Rattle.qs_part.specs.declared.event.Outcome.{Outcome}
use Rattle.qs_part.specs.declared.event.Outcome.TheVariants.{Attached as AttachedOut, NoExport as NoExportOut, Crowded as CrowdedOut, Left as LeftOut, Made, Moved, Answered}
use Rattle.qs_part.specs.declared.tracker.TrackerReply.{TrackerReply}
use Rattle.qs_part.specs.declared.tracker.TrackerReply.TheVariants.{Entered, Quiesced as QuiescedReply, Full as FullReply, Listed, Strange as StrangeReply, Started, NotYet as NotYetReply, Ended}
use Rattle.qs_part.specs.declared.event.GraphNote.{GraphNote}
use Rattle.qs_part.specs.declared.event.GraphNote.TheVariants.{NotAttached as NotAttachedNote, Detached as DetachedNote, Shutting, Routed}
use Rattle.qs_model.specs.Requests.{Client, Stage, ToList, ToStart, ToHold, ToStore, ToFree, ToEnd, Entering, In, brings_bytes, edge, verdict, wants_body}
use Rattle.qs_model.specs.Acts.{Act, Answers, Waits, Enters, Routes, Shuts, Lists, Starts, Loads, LoadFails, Holds, HoldFails, Stores, StoreFails, Syncs, Cleans, SyncFails, Frees, Ends, Wait, Quiesced, Full, NotYet, HeldBy, Taken, Strange, NotHeld, Element, Attached, NoExport, Crowded, Left, Detached, NotAttached, Asked, Did}

-- one operation, the block or the stripe that it stands on, and its answer
abbrev pub tracker_note : OpKind → TrackerReply → Option Note
tracker_note kind reply = Some (record { kind = kind; at = None; reply = OfTracker reply })

abbrev pub graph_note : OpKind → GraphNote → Option Note
graph_note kind reply = Some (record { kind = kind; at = None; reply = OfGraph reply })

abbrev pub stripe_note : OpKind → ℕ → StripeNote → Option Note
stripe_note kind at reply = Some (record { kind = kind; at = Some at; reply = OfStripe reply })

-- the notes of the answers that leave a request where it is; None where such an answer never comes
abbrev pub wait_note : ℕ → Client → Stage → Wait → Option Note
wait_note A c Entering Quiesced = tracker_note Enter QuiescedReply
wait_note A c Entering Full = tracker_note Enter FullReply
wait_note A c (In k ToList) Strange = tracker_note ListOp StrangeReply
wait_note A c (In k ToStart) (NotYet n) = tracker_note Start (NotYetReply n)
wait_note A c (In k ToStart) Strange = tracker_note Start StrangeReply
wait_note A c (In k (ToHold side)) (HeldBy j) = stripe_note HoldOp (edge A c side) (HeldByNote j)
wait_note A c (In k (ToHold side)) (Taken b) = stripe_note HoldOp (edge A c side) (TakenNote b)
wait_note A c (In k (ToStore b)) (HeldBy j) = stripe_note Store b (HeldByNote j)
wait_note A c (In k (ToFree side)) NotHeld = stripe_note Free (edge A c side) NotHeldNote
wait_note A c (In k (ToEnd v)) Strange = tracker_note End StrangeReply
wait_note A c _ _ = None

-- the note of a row; None where it does no operation
abbrev pub note_of : ℕ → Client → {stage : Stage} → Act stage → Option Note
note_of A c Answers = None
note_of A c (Waits {stage = stage} wait) = wait_note A c stage wait
note_of A c (Enters k) = tracker_note Enter (Entered k)
note_of A c (Routes route) = graph_note RouteOp (Routed route)
note_of A c Shuts = graph_note RouteOp Shutting
note_of A c (Lists n) = tracker_note ListOp (Listed n)
note_of A c Starts = tracker_note Start Started
note_of A c (Loads {b = b} bytes) = stripe_note Load b Filled
note_of A c (LoadFails {b = b}) = stripe_note Load b Fault
note_of A c (Holds {side = side} bytes) = stripe_note HoldOp (edge A c side) Filled
note_of A c (HoldFails {side = side}) = stripe_note HoldOp (edge A c side) Fault
note_of A c (Stores {b = b} bytes past) = stripe_note Store b Done
note_of A c (StoreFails {b = b} bytes took past) = stripe_note Store b Fault
note_of A c (Syncs {s = s}) = stripe_note Sync s Synced
note_of A c (Cleans {s = s}) = stripe_note Sync s Clean
note_of A c (SyncFails {s = s}) = stripe_note Sync s Fault
note_of A c (Frees {side = side}) = stripe_note Free (edge A c side) Freed
note_of A c Ends = tracker_note End Ended

abbrev pub moved_out : Option Note → Option Outcome
moved_out None = None
moved_out (Some note) = Some (Moved note)

-- the outcome of a row: the answer, if the request answers, else the note
abbrev pub row_outcome : ℕ → Client → Bool → {stage : Stage} → Act stage → Option Outcome
row_outcome A c d (Answers {v = v}) = Some (Answered v None)
row_outcome A c d (Ends {v = v}) = Some (Answered (verdict d v) (tracker_note End Ended))
row_outcome A c d act = moved_out (note_of A c act)

-- the outcome of a step; None where it is no event's
abbrev pub outcome_of : ℕ → Element → Option Outcome
outcome_of A (Attached s name info) = Some (AttachedOut info)
outcome_of A (NoExport s name) = Some NoExportOut
outcome_of A (Crowded s name) = Some CrowdedOut
outcome_of A (Left s e) = Some LeftOut
outcome_of A (Detached s e) = moved_out (graph_note Detach DetachedNote)
outcome_of A (NotAttached s e) = moved_out (graph_note Detach NotAttachedNote)
outcome_of A (Asked r c) = Some (Made r)
outcome_of A (Did r q act) = row_outcome A q.client q.dropped act
outcome_of A _ = None

-- no body is wanted, or buffers were refused; the request has no bytes
pub record HasNone (c : Client) : Type 0 where
  pub wanted : (wants_body c.ask ≡ false) ⊎ (c.buffered ≡ false)
  pub empty : c.body ≡ []

-- The body that came with an Ask: none where a buffer was refused or none is wanted, else a WRITE's
-- bytes. One that isn't of the length that is asked for counts as none.
abbrev pub BringsBytes : Option (List ℕ) → Client → Type 0
BringsBytes None c = HasNone c
BringsBytes (Some body) c =
    ((length body ≡ c.ask.length) × (brings_bytes c.ask.kind ≡ true → body ≡ c.body))
    ⊎ ((length body ≢ c.ask.length) × HasNone c)

-- the event that a step answers; the clock's reading of a Step is free where no group is asked
abbrev pub IsEvent : Event → Element → Type 0
IsEvent (Attach session name) (Attached s given info) = (session ≡ s) × (name ≡ given)
IsEvent (Attach session name) (NoExport s given) = (session ≡ s) × (name ≡ given)
IsEvent (Attach session name) (Crowded s given) = (session ≡ s) × (name ≡ given)
IsEvent (Leave session) (Left s e) = session ≡ s
IsEvent (AskEvent session ask body) (Asked r c) = (session ≡ c.session) × (ask ≡ c.ask) × BringsBytes body c
IsEvent (StepEvent actor now) (Did r q act) = actor ≡ ARequest r
IsEvent (StepEvent actor now) (Detached s e) = actor ≡ ASession s
IsEvent (StepEvent actor now) (NotAttached s e) = actor ≡ ASession s
IsEvent _ _ = ⊥
