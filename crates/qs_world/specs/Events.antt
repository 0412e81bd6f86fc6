-- What an event does to the core, and when it can't come.
use Rattle.std.specs.Prelude.{◌≡◌, ◌≢◌, ℕ, ◌+◌, ◌*◌, ◌-◌, ◌^◌, ◌<◌, ◌≤◌, ◌⊎◌, Bool, true, false, Option, Some, None}
use Rattle.qs_outside.specs.Blocks.{Seen}
use Rattle.qs_outside.specs.Faults.{Rose}
use Rattle.qs_outside.specs.Rigged.{plans_of}
use Rattle.qs_part.specs.declared.event.Actor.TheVariants.{Session as ASession, Request as ARequest}
use Rattle.qs_part.specs.declared.event.Event.{Event}
use Rattle.qs_part.specs.declared.event.Event.TheVariants.{Attach, Leave, Ask, Step}
use Rattle.qs_part.specs.declared.event.OpKind.{OpKind}
use Rattle.qs_part.specs.declared.event.OpKind.TheVariants.{Load as LoadKind, Hold as HoldKind, Store as StoreKind, Free as FreeKind, Sync as SyncKind}
use Rattle.qs_part.specs.declared.event.Outcome.{Outcome}
use Rattle.qs_part.specs.declared.event.Outcome.TheVariants.{NotNext, Memory, Moved, Answered}
use Rattle.qs_part.specs.declared.event.NoteReply.{NoteReply}
use Rattle.qs_part.specs.declared.event.NoteReply.TheVariants.{Stripe}
use Rattle.qs_part.specs.declared.event.StripeNote.TheVariants.{Fault}
use Rattle.qs_model.specs.Requests.{Req, Stage}
use Rattle.qs_model.specs.Worlds.{World, Away, Live, Leaving}
use Rattle.qs_bytes.specs.Geometry.{stripe_of}
use Rattle.qs_model.specs.Acts.{Act, StoreFails, Element, Did, block_of}
use Rattle.qs_model.specs.Guards.{CanCome}
use Rattle.qs_model.specs.Steps.{happens}
use Rattle.qs_model.specs.Events.{IsEvent, outcome_of}
use Rattle.qs_request_state.specs.declared.shape.Shape.{Shape}
use Rattle.qs_image.specs.Image.{SameDisks}
use Rattle.qs_stripe.specs.Table.{StripeValue}
use Rattle.qs_world.specs.Images.{stripe_at}
use Rattle.qs_world.specs.Values.{WorldValue, disks_of, request_at, session_at, stripes_of}
use Rattle.qs_world.specs.Stands.{Stands}

-- From each state of the model that the core stood for, the element may come, and the core stands for
-- where it leads.
abbrev pub Does : {D : Type 0} → (D → Seen) → WorldValue D → Element → WorldValue D → Type 0
Does seen old e new = (m : World) → Stands seen old m →
    CanCome old.shape.align m e × Stands seen new (happens old.shape.align m e)

-- a store that was planned to fail, on a disk that isn't full, left its block as the plan says
abbrev pub IsRowAsPlanned : (ℕ → StripeValue) → {stage : Stage} → Act stage → Type 0
IsRowAsPlanned stripe (StoreFails {b = b} bytes took past) = (writes : Bool) →
    (stripe (stripe_of b)).disk.full ≡ Some false →
    (plans_of (stripe (stripe_of b)).disk.planned).store ≡ Some writes → took ≡ writes
IsRowAsPlanned stripe _ = Unit {0}

abbrev pub IsAsPlanned : {D : Type 0} → (D → Seen) → WorldValue D → Element → Type 0
IsAsPlanned seen w (Did r q act) = IsRowAsPlanned (stripe_at (stripes_of seen w)) act
IsAsPlanned seen w _ = Unit {0}

-- an operation on a block stands inside the image
abbrev pub IsInside : Shape → Element → Type 0
IsInside shape (Did r q act) = (b : ℕ) → block_of shape.align q.client act ≡ Some b →
    (0 < shape.align) × ((b + 1) * shape.align ≤ shape.size)
IsInside shape _ = Unit {0}

-- a step of the model that answers the event by this outcome
pub record Steps {D : Type 0} (seen : D → Seen) (old : WorldValue D) (event : Event) (outcome : Outcome)
    (new : WorldValue D) : Type 0 where
  pub element : Element
  pub answers_event : IsEvent event element
  pub outcome_is : outcome_of old.shape.align element ≡ Some outcome
  pub does : Does seen old element new
  pub as_planned : IsAsPlanned seen old element
  pub inside : IsInside old.shape element
  pub shape_kept : new.shape ≡ old.shape

-- memory is wanted by an Attach and an Ask alone
abbrev pub TakesMemory : Event → Type 0
TakesMemory (Attach session name) = Unit {0}
TakesMemory (Ask session ask body) = Unit {0}
TakesMemory _ = ⊥

-- an event is a step of the model, or it can't come now, or memory was refused, and all is as before
abbrev pub StepsTo : {D : Type 0} → (D → Seen) → WorldValue D → Event → Outcome → WorldValue D → Type 0
StepsTo seen old event NotNext new = new ≡ old
StepsTo seen old event Memory new = TakesMemory event × (new ≡ old)
StepsTo seen old event outcome new = Steps seen old event outcome new

-- a request of this session hasn't been answered
abbrev pub HasRequest : {D : Type 0} → WorldValue D → ℕ → Type 0
HasRequest w s = (r : ℕ) × (q : Req) × ((request_at w.requests r ≡ Some q) × (q.client.session ≡ s))

-- An event that can't come: an Attach of a session that is there; a Leave or an Ask of one that isn't
-- live, and an Ask after 2^64 - 1 requests; a step of a request that isn't there, and of a session that
-- hasn't left, or that has a request.
abbrev pub IsNotNext : {D : Type 0} → WorldValue D → Event → Type 0
IsNotNext w (Attach session name) = session_at w.sessions session ≢ Away
IsNotNext w (Leave session) = (e : ℕ) → session_at w.sessions session ≢ Live e
IsNotNext w (Ask session ask body) = ((e : ℕ) → session_at w.sessions session ≢ Live e) ⊎ (2 ^ 64 - 1 ≤ w.next)
IsNotNext w (Step (ARequest r) now) = request_at w.requests r ≡ None
IsNotNext w (Step (ASession s) now) = ((e : ℕ) → session_at w.sessions s ≢ Leaving e) ⊎ HasRequest w s

-- the stripe whose disk an operation is on, by its kind and what it stands on: the stripe of a block, or the stripe
-- itself
abbrev pub stripe_by : OpKind → Option ℕ → Option ℕ
stripe_by LoadKind (Some b) = Some (stripe_of b)
stripe_by HoldKind (Some b) = Some (stripe_of b)
stripe_by StoreKind (Some b) = Some (stripe_of b)
stripe_by FreeKind (Some b) = Some (stripe_of b)
stripe_by SyncKind (Some s) = Some s
stripe_by _ _ = None

-- a fault of a disk comes only where its count rose
abbrev pub IsCaused : {D : Type 0} → (D → Seen) → WorldValue D → Outcome → WorldValue D → Type 0
IsCaused seen old (Moved note) new = (j : ℕ) → stripe_by note.kind note.at ≡ Some j → note.reply ≡ Stripe Fault →
    Rose (stripe_at (stripes_of seen old) j).disk.faults (stripe_at (stripes_of seen new) j).disk.faults
IsCaused seen old _ new = Unit {0}

-- the operation of an event was a stripe's
abbrev pub is_of_stripe : NoteReply → Bool
is_of_stripe (Stripe note) = true
is_of_stripe _ = false

abbrev pub calls_stripe : Outcome → Bool
calls_stripe (Moved note) = is_of_stripe note.reply
calls_stripe (Answered verdict (Some note)) = is_of_stripe note.reply
calls_stripe _ = false

-- What an event made of the disks: they are the same ones, and no count of faults fell; a fault comes only where its
-- disk's count rose, and an event whose operation isn't a stripe's leaves all stripes as they were.
pub record HasCause {D : Type 0} (seen : D → Seen) (old : WorldValue D) (outcome : Outcome)
    (new : WorldValue D) : Type 0 where
  pub disks : SameDisks (disks_of seen old) (disks_of seen new)
  pub fault : IsCaused seen old outcome new
  pub rest : calls_stripe outcome ≡ false → new.stripes ≡ old.stripes
