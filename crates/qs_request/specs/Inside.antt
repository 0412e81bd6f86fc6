-- What stands in a request's fields, and what they keep.
use Rattle.std.specs.Prelude.{◌≡◌, ℕ, ◌+◌, ◌-◌, ◌*◌, ◌^◌, ◌<◌, ◌≤◌, max, Bool, true, false, ◌&&◌, length, take, if◌then◌else◌, Option, Some, None}
use Rattle.qs_bytes.specs.declared.ask.Ask.{Ask}
use Rattle.qs_bytes.specs.declared.ask.Errno.TheVariants.{Inval, NoMem}
use Rattle.qs_bytes.specs.declared.ask.Kind.TheVariants.{Read}
use Rattle.qs_bytes.specs.declared.ask.Verdict.{Verdict}
use Rattle.qs_bytes.specs.declared.ask.Verdict.TheVariants.{Refused, Dropped}
use Rattle.qs_bytes.specs.Spans.{Places}
use Rattle.qs_part.specs.declared.graph.Route.{Route}
use Rattle.qs_part.specs.declared.stripe.Side.{Side}
use Rattle.qs_part.specs.declared.stripe.Side.TheVariants.{Head, Tail}
use Rattle.qs_model.specs.Requests.{Client, Req, Step, Stage, ToRoute, ToList, ToStart, ToLoad, ToHold, ToStore, ToSync, ToFree, ToEnd, Ready, Entering, In, edge, has, span_of, pad, no_route, success, form_error, is_flush, is_known, is_read, stores_bytes, takes_body, wants_buffers}
use Rattle.qs_request_state.specs.declared.stage.Ending.{Ending}
use Rattle.qs_request_state.specs.declared.stage.Ending.TheVariants.{Success, Failed, Dropped as Left}
use Rattle.qs_request_state.specs.declared.stage.Step.{Step as Next}
use Rattle.qs_request_state.specs.declared.stage.Step.TheVariants.{Route as RouteNext, List as ListNext, Start as StartNext, Load as LoadNext, Hold as HoldNext, Store as StoreNext, Sync as SyncNext, Free as FreeNext, End as EndNext}
use Rattle.qs_request_state.specs.declared.stage.Stage.{Stage as At}
use Rattle.qs_request_state.specs.declared.stage.Stage.TheVariants.{Ready as ReadyAt, Entering as EnteringAt, In as InAt}
use Rattle.qs_request.specs.declared.machine.Machine.{Machine}
use Rattle.qs_request.specs.declared.todo.PartReply.{PartReply}
use Rattle.qs_request_state.specs.Shapes.{IsShape}
use Rattle.qs_request.specs.Table.{MayAnswer, followed}
use Rattle.qs_request.specs.Value.{RequestValue, bytes_of}

-- the way of a request, which has none before Route
abbrev pub way_of : Option Route → Route
way_of None = no_route
way_of (Some route) = route

abbrev pub client_of : Machine → Client
client_of m = record {
  session = m.session;
  export = m.export;
  ask = m.ask;
  body = bytes_of m.ask.kind m.body;
  buffered = m.buffered;
  route = way_of m.route;
}

-- how many bytes of its span stand before block b
abbrev pub before : Machine → ℕ → ℕ
before m b = max (span_of (client_of m)).lo (b * m.shape.align) - (span_of (client_of m)).lo

abbrev pub verdict_of : Machine → Ending → Verdict
verdict_of m Success = success (client_of m) m.body
verdict_of m (Failed e) = Refused e
verdict_of m Left = Dropped

abbrev pub step_of : Machine → Next → Step
step_of m RouteNext = ToRoute
step_of m ListNext = ToList
step_of m StartNext = ToStart
step_of m (LoadNext b) = ToLoad b (take (before m b) m.body)
step_of m (HoldNext side) = ToHold side
step_of m (StoreNext b) = ToStore b
step_of m (SyncNext s) = ToSync s
step_of m (FreeNext side) = ToFree side
step_of m (EndNext e) = ToEnd (verdict_of m e)

abbrev pub stage_of : Machine → At → Stage
stage_of m (ReadyAt e) = Ready (verdict_of m e)
stage_of m EnteringAt = Entering
stage_of m (InAt k step) = In k (step_of m step)

abbrev pub request_of : Machine → Req
request_of m = record { client = client_of m; dropped = m.dropped; pads = m.pads.pads; stage = stage_of m m.stage }

abbrev pub value_of : Machine → RequestValue
value_of m = record { request = request_of m; shape = m.shape; waits = m.waits; answered = m.answered }

-- the stage of a request as it is made
abbrev pub first_stage : Ask → Bool → At
first_stage ask buffered =
    if form_error ask then ReadyAt (Failed Inval)
    else if buffered then EnteringAt
    else ReadyAt (Failed NoMem)

-- a kind of request that there is, with the buffers that it wants
pub record IsAsked (m : Machine) : Type 0 where
  pub kind : is_known m.ask.kind ≡ true
  pub buffered : m.buffered ≡ true

-- a READ or a write that has its way: its span isn't empty, and lies inside the image
pub record IsGoing (m : Machine) : Type 0 where
  pub asked : IsAsked m
  pub works : wants_buffers m.ask ≡ true
  pub some : (span_of (client_of m)).lo < (span_of (client_of m)).hi
  pub inside : (span_of (client_of m)).hi ≤ m.shape.size

-- a block of its span, or one that it reaches at an end
pub record IsReached (m : Machine) (b : ℕ) : Type 0 where
  pub going : IsGoing m
  pub first : edge m.shape.align (client_of m) Head ≤ b
  pub last : b ≤ edge m.shape.align (client_of m) Tail

-- a block of A bytes from this place on has a place of the span, and no place above 2^40
pub record IsPlaced (s : Places) (A start : ℕ) : Type 0 where
  pub some : s.lo < s.hi
  pub begins : s.lo < start + A
  pub ends : start < s.hi
  pub small : start + A ≤ 2 ^ 40

-- the pad of an end that it has is kept
abbrev pub IsKept : Machine → Side → Type 0
IsKept m side = has m.shape.align (client_of m) side ≡ true → length (pad m.pads.pads side) ≡ m.shape.align

-- the pads that are kept before the Hold of an end
abbrev pub HasKept : Machine → Side → Type 0
HasKept m Head = Unit {0}
HasKept m Tail = IsKept m Head

-- all pads are kept
abbrev pub HasPads : Machine → Type 0
HasPads m = (side : Side) → IsKept m side

-- the pads that are kept after it
abbrev pub HasKeptTo : Machine → Side → Type 0
HasKeptTo m Head = IsKept m Head
HasKeptTo m Tail = HasPads m

pub record IsLoading (m : Machine) (b : ℕ) : Type 0 where
  pub reading : m.ask.kind ≡ Read
  pub reached : IsReached m b

pub record IsHolding (m : Machine) (side : Side) : Type 0 where
  pub going : IsGoing m
  pub writing : stores_bytes m.ask.kind ≡ true
  pub kept : HasKept m side

pub record IsStoring (m : Machine) (b : ℕ) : Type 0 where
  pub writing : stores_bytes m.ask.kind ≡ true
  pub reached : IsReached m b
  pub kept : HasPads m

-- a FLUSH, or a write that has stored its blocks
pub record IsSyncing (m : Machine) : Type 0 where
  pub unread : is_read m.ask.kind ≡ false
  pub going : is_flush m.ask.kind ≡ false → IsGoing m

-- what each step keeps
abbrev pub Goes : Machine → Next → Type 0
Goes m RouteNext = IsAsked m
Goes m ListNext = IsGoing m
Goes m StartNext = IsGoing m
Goes m (LoadNext b) = IsLoading m b
Goes m (HoldNext side) = IsHolding m side
Goes m (StoreNext b) = IsStoring m b
Goes m (SyncNext s) = (s < 8) × IsSyncing m
Goes m (FreeNext side) = IsGoing m
Goes m (EndNext e) = Unit {0}

abbrev pub IsAtStage : Machine → At → Type 0
IsAtStage m (ReadyAt e) = Unit {0}
IsAtStage m EnteringAt = IsAsked m
IsAtStage m (InAt k step) = Goes m step

-- an operation that is lent the block to work in
abbrev pub lends : Next → Bool
lends (LoadNext b) = true
lends (HoldNext side) = true
lends (StoreNext b) = true
lends _ = false

abbrev pub lends_at : At → Bool
lends_at (InAt k step) = lends step
lends_at _ = false

-- the buffers of a request that has those it wants: the body, room for the pads, and the block to
-- work in where it isn't lent
pub record HasBuffers (m : Machine) (lent : Bool) : Type 0 where
  pub body : m.buffered ≡ true → takes_body m.ask.kind ≡ true → length m.body ≡ m.ask.length
  pub pads : m.buffered ≡ true → wants_buffers m.ask ≡ true → m.pads.align ≡ m.shape.align
  pub work : m.buffered ≡ true → wants_buffers m.ask ≡ true → lent ≡ false → length m.work ≡ m.shape.align

-- all that a request keeps until it answers
pub record IsSound (m : Machine) : Type 0 where
  pub shape : IsShape m.shape
  pub buffers : HasBuffers m (lends_at m.stage && m.waits)
  pub stands : IsAtStage m m.stage

-- it may be asked for its next operation
pub record IsFree (m : Machine) : Type 0 where
  pub sound : IsSound m
  pub waits : m.waits ≡ false
  pub answered : m.answered ≡ false

-- it waits for this reply, among others
pub record AwaitsReply (m : Machine) (reply : PartReply) : Type 0 where
  pub sound : IsSound m
  pub waits : m.waits ≡ true
  pub answered : m.answered ≡ false
  pub may : MayAnswer m.shape (stage_of m m.stage) reply

-- the reply was taken
pub record TakesReply (old : Machine) (reply : PartReply) (new : Machine) : Type 0 where
  pub request : request_of new ≡ followed old.shape.align (request_of old) reply
  pub shape : new.shape ≡ old.shape
  pub free : IsFree new
