-- A request that is alone: it is asked where no request is live, and only its own steps follow. What its answer then
-- says of the bytes.
use Rattle.std.specs.Prelude.{◌≡◌, ℕ, ◌+◌, ◌<◌, ◌⊎◌, Bool, true, false, ◌&&◌, nat_lt, if◌then◌else◌, List, ◌∷◌, ◌++◌, length, Option, Some, None, IsTrue}
use Rattle.std.specs.List.{AllByRecursion}
use Rattle.qs_bytes.specs.Geometry.{stripe_of}
use Rattle.qs_bytes.specs.declared.ask.Errno.TheVariants.{Io}
use Rattle.qs_bytes.specs.declared.ask.Verdict.{Verdict}
use Rattle.qs_bytes.specs.declared.ask.Verdict.TheVariants.{Got, Fine, Refused}
use Rattle.qs_part.specs.declared.stripe.Side.TheVariants.{Head, Tail}
use Rattle.qs_graph.specs.declared.export.Export.{Export}
use Rattle.qs_graph.specs.Exports.{export_at}
use Rattle.qs_graph.specs.Table.{GraphValue, route_of}
use Rattle.qs_model.specs.Requests.{Client, Stage, body_at, covers, edge, is_flush, span_of, writes}
use Rattle.qs_model.specs.Worlds.{Image, Opening, World, byte_at}
use Rattle.qs_model.specs.Acts.{Act, Waits, Loads, LoadFails, Holds, HoldFails, Stores, StoreFails, Syncs, Cleans, SyncFails, Frees, Element, Asked, Did}
use Rattle.qs_model.specs.Histories.{Acts}
use Rattle.qs_model.specs.Laws.{ComesBehind, opening_world, reply_at}
use Rattle.qs_model.specs.Steps.{Runs, world_after}
use Rattle.qs_verdicts.specs.Stories.{Way, Shut, Given, route_by}
use Rattle.qs_verdicts.specs.Verdicts.{MayWork, Meets, verdict_by_way}

-- every step is one of request r
abbrev pub AreOf : ℕ → List Element → Type 0
AreOf r es = AllByRecursion (λ e. Acts r e) es

-- no request is live
abbrev pub IsIdle : World → Type 0
IsIdle w = (s : ℕ) → w.req s ≡ None

-- a step leaves its request waiting: some part answered it so that it has to ask again
abbrev pub IsWaitRow : {stage : Stage} → Act stage → Type 0
IsWaitRow (Waits wait) = Unit {0}
IsWaitRow _ = ⊥

abbrev pub IsWaitStep : Element → Type 0
IsWaitStep (Did s q act) = IsWaitRow act
IsWaitStep _ = ⊥

-- Request r was made for client c where no request was live, and only its own steps follow.
pub record IsAlone (A : ℕ) (o : Opening) (before : List Element) (r : ℕ) (c : Client)
    (steps : List Element) : Type 0 where
  pub run : Runs A (opening_world o) (before ++ Asked r c ∷ steps)
  pub idle : IsIdle (world_after A (opening_world o) before)
  pub own : AreOf r steps

-- what the graph says of the way of the export at place e: ESHUTDOWN where none stands there (this server's table of
-- replies)
abbrev pub way_by : ℕ → Option Export → Way
way_by size None = Shut
way_by size (Some x) = Given (route_of size x)

abbrev pub way_in : GraphValue → ℕ → Way
way_in g e = way_by g.size (export_at g.places e)

-- the client with the way that the graph gives
abbrev pub routed_in : GraphValue → Client → Client
routed_in g c = record c { route = route_by (way_in g c.export) }

-- the byte at x where the places below n have what the request writes (NBD proto.md, WRITE and WRITE_ZEROES)
abbrev pub written_to : ℕ → Image → Client → ℕ → ℕ → ℕ
written_to A old c n x = if writes c && covers c x && nat_lt x n then body_at c x else byte_at A old x

-- What the answer says of the bytes: a READ that is Got has the bytes that it covers, a write that is Fine wrote all
-- of its bytes, one that failed a front of them; nothing else changes a byte (NBD proto.md, "Request types").
abbrev pub AnswerChanges : ℕ → Image → Client → Verdict → Image → Type 0
AnswerChanges A old c (Got bytes) new =
    (length bytes ≡ c.ask.length) × ((x : ℕ) → covers c x ≡ true → reply_at c bytes x ≡ byte_at A old x)
    × ((x : ℕ) → byte_at A new x ≡ byte_at A old x)
AnswerChanges A old c Fine new = (x : ℕ) → byte_at A new x ≡ written_to A old c (span_of c).hi x
AnswerChanges A old c (Refused Io) new = (n : ℕ) × ((x : ℕ) → byte_at A new x ≡ written_to A old c n x)
AnswerChanges A old c other new = (x : ℕ) → byte_at A new x ≡ byte_at A old x

-- a disk of stripe j failed in this step
abbrev pub FailsRow : ℕ → ℕ → Client → {stage : Stage} → Act stage → Type 0
FailsRow A j c (LoadFails {b = b}) = stripe_of b ≡ j
FailsRow A j c (HoldFails {side = side}) = stripe_of (edge A c side) ≡ j
FailsRow A j c (StoreFails {b = b} bytes took past) = stripe_of b ≡ j
FailsRow A j c (SyncFails {s = s}) = s ≡ j
FailsRow A j c _ = ⊥

abbrev pub FailsOn : ℕ → ℕ → Element → Type 0
FailsOn A j (Did r q act) = FailsRow A j q.client act
FailsOn A j _ = ⊥

-- A disk failed for the request: of a block that it reaches, or for a FLUSH of any stripe.
pub record HasFailed (A : ℕ) (c : Client) (steps : List Element) : Type 0 where
  pub front : List Element
  pub step : Element
  pub comes : ComesBehind front step steps
  pub stripe : ℕ
  pub small : stripe < 8
  pub fails : FailsOn A stripe step
  pub reach : (is_flush c.ask.kind ≡ true) ⊎ ((0 < c.ask.length) × Meets (edge A c Head) (edge A c Tail) stripe)

-- a row whose operation is no stripe's
abbrev pub IsOffRow : {stage : Stage} → Act stage → Type 0
IsOffRow (Loads bytes) = ⊥
IsOffRow LoadFails = ⊥
IsOffRow (Holds bytes) = ⊥
IsOffRow HoldFails = ⊥
IsOffRow (Stores bytes past) = ⊥
IsOffRow (StoreFails bytes took past) = ⊥
IsOffRow Syncs = ⊥
IsOffRow Cleans = ⊥
IsOffRow SyncFails = ⊥
IsOffRow Frees = ⊥
IsOffRow _ = Unit {0}

abbrev pub IsOff : Element → Type 0
IsOff (Did r q act) = IsOffRow act
IsOff _ = ⊥

-- The answer v of a request alone, between the states w and w': a line of the table of replies, over the way that the
-- graph gives. A READ that is Got has as many bytes as it asked for. An answer that only a request without work gets
-- comes without a step on a stripe, and leaves the image wholly as it was; so does a request that neither stores nor
-- syncs. Then no request is live; sessions, exports and clients are as they were.
pub record IsServed (A : ℕ) (w : World) (c : Client) (steps : List Element) (v : Verdict) (w' : World) : Type 0 where
  pub fault : Bool
  pub got : List ℕ
  pub reply : verdict_by_way c.ask c.buffered (way_in w.graph c.export) fault got ≡ Some v
  pub changes : IsTrue w.tells → AnswerChanges A w.image (routed_in w.graph c) v w'.image
  pub whole : (bytes : List ℕ) → v ≡ Got bytes → length bytes ≡ c.ask.length
  pub uncalled : (MayWork v → ⊥) → w'.image ≡ w.image
  pub off : (MayWork v → ⊥) → AllByRecursion IsOff steps
  pub past : writes c ≡ false → is_flush c.ask.kind ≡ false → w'.image ≡ w.image
  pub failed : v ≡ Refused Io → HasFailed A (routed_in w.graph c) steps
  pub idle : IsIdle w'
  pub next : w'.next ≡ w.next + 1
  pub session : w'.session ≡ w.session
  pub graph : w'.graph ≡ w.graph
  pub clients : w'.clients ≡ w.clients
  pub tells : w'.tells ≡ w.tells
