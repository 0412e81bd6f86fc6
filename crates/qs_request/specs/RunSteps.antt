-- A run of a request on its stripe: the request's single operations, one after the other.
use Rattle.std.specs.Prelude.{◌≡◌, ℕ, suc, ◌<◌, ◌≤◌, List, length, get_or, Some}
use Rattle.qs_outside.specs.Runs.{EndsAt}
use Rattle.qs_part.specs.declared.event.Note.{Note}
use Rattle.qs_part.specs.declared.event.NoteReply.{NoteReply}
use Rattle.qs_part.specs.declared.event.NoteReply.TheVariants.{Stripe as OfStripe}
use Rattle.qs_part.specs.declared.event.OpKind.TheVariants.{Load as LoadKind, Store as StoreKind}
use Rattle.qs_part.specs.declared.event.StripeNote.TheVariants as told
use Rattle.qs_part.specs.declared.stripe.StripeOp.{StripeOp}
use Rattle.qs_part.specs.declared.stripe.StripeOp.TheVariants.{Load, Store}
use Rattle.qs_part.specs.declared.stripe.StripeReply.{StripeReply}
use Rattle.qs_part.specs.declared.stripe.StripeReply.TheVariants.{Filled, Fault, HeldBy, Done}
use Rattle.qs_stripe.specs.declared.geometry.Geometry.{Geometry}
use Rattle.qs_stripe.specs.Table.{StripeValue, answers}
use Rattle.qs_bytes.specs.Geometry.{stripe_of}
use Rattle.qs_model.specs.Requests.{Req, Stage, ToLoad, ToStore, In, span_of}
use Rattle.qs_request_state.specs.declared.shape.Shape.{Shape}
use Rattle.qs_request.specs.declared.todo.Todo.TheVariants.{Stripe}
use Rattle.qs_request.specs.declared.todo.PartReply.TheVariants.{Stripe as ByStripe}
use Rattle.qs_request.specs.declared.whole_run.WholeRun.{WholeRun}
use Rattle.qs_request.specs.Table.{FitsStripe, Wants, followed}
use Rattle.qs_request.specs.Value.{IsReady}
use Rattle.qs_request.specs.WholeRuns.{IsWholeRun}

-- the next operation is the run's first: a READ loads its first block, or a WRITE or WRITE_ZEROES stores it
abbrev pub IsFirstOf : WholeRun → Req → Stage → Type 0
IsFirstOf run q (In k (ToLoad b got)) = (k ≡ run.k) × (b ≡ run.b)
IsFirstOf run q (In k (ToStore b)) = (k ≡ run.k) × (b ≡ run.b)
IsFirstOf run q _ = ⊥

-- the request's next operations are those of the run
pub record IsNextRun (A : ℕ) (q : Req) (run : WholeRun) : Type 0 where
  pub next : IsFirstOf run q q.stage
  pub whole_run : IsWholeRun A (span_of q.client) run

-- at least so many bytes, and each is zero
pub record AreZeros (n : ℕ) (bytes : List ℕ) : Type 0 where
  pub long : n ≤ length bytes
  pub zeros : (i : ℕ) → get_or bytes i 0 ≡ 0

-- the stripe that a block of the image is on
abbrev pub geometry_for : Shape → ℕ → Geometry
geometry_for shape b = record { stripe = stripe_of b; align = shape.align; size = shape.size }

-- a request and a stripe
pub record Both : Type 0 where
  pub request : Req
  pub stripe : StripeValue

-- how the load or the store of a whole block is told: its kind, its block, and its answer
abbrev pub IsTold : Note → StripeOp → StripeReply → Type 0
IsTold note (Load b k buf) (Filled got) = note ≡ record { kind = LoadKind; at = Some b; reply = OfStripe told.Filled }
IsTold note (Load b k buf) (Fault back) = note ≡ record { kind = LoadKind; at = Some b; reply = OfStripe told.Fault }
IsTold note (Store b k buf) (Done back) = note ≡ record { kind = StoreKind; at = Some b; reply = OfStripe told.Done }
IsTold note (Store b k buf) (Fault back) = note ≡ record { kind = StoreKind; at = Some b; reply = OfStripe told.Fault }
IsTold note (Store b k buf) (HeldBy j back) = note
    ≡ record { kind = StoreKind; at = Some b; reply = OfStripe (told.HeldBy j) }
IsTold note _ _ = ⊥

-- the request did the operation that was next, on stripe s, took the answer, and goes on
pub record DoesOne (shape : Shape) (s : ℕ) (note : Note) (old new : Both) : Type 0 where
  pub op : StripeOp
  pub reply : StripeReply
  pub wants : Wants shape.align old.request (Stripe s op)
  pub fits : FitsStripe shape s op
  pub answers_op : answers old.stripe op reply new.stripe
  pub follows : new.request ≡ followed shape.align old.request (ByStripe reply)
  pub on : IsReady new.request.stage → ⊥
  pub is_told : IsTold note op reply

-- the block has its bytes, or the request has them
abbrev pub IsDone : NoteReply → Type 0
IsDone (OfStripe told.Filled) = Unit {0}
IsDone (OfStripe told.Done) = Unit {0}
IsDone _ = ⊥

-- an operation that was done
pub record GoesOn (shape : Shape) (s : ℕ) (old new : Both) : Type 0 where
  pub note : Note
  pub does : DoesOne shape s note old new
  pub done : IsDone note.reply

-- So many operations of n were done, one after the other, and a last one, which is told by the note; the run ends
-- before its last block only where that one wasn't done.
pub record RanOut (shape : Shape) (s n : ℕ) (note : Note) (old new : Both) : Type 0 where
  pub before : ℕ
  pub below : before < n
  pub ends : EndsAt (λ i. GoesOn shape s) (λ i. DoesOne shape s note) before old new
  pub whole : IsDone note.reply → suc before ≡ n
