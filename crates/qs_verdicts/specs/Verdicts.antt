-- The answer of a request, by the table of replies: the first line that applies (NBD proto.md, and this server's own
-- order).
use Rattle.std.specs.Prelude.{◌≡◌, ◌≢◌, ◌↔◌, ℕ, ◌+◌, ◌≤◌, ◌==◌, ◌⊎◌, Bool, true, false, not, ◌&&◌, ◌||◌, nat_lt, if◌then◌else◌, List, [], ◌∷◌, Option, Some, None}
use Rattle.qs_bytes.specs.Geometry.{stripe_of}
use Rattle.qs_bytes.specs.Payloads.{max_payload}
use Rattle.qs_bytes.specs.declared.ask.Ask.{Ask}
use Rattle.qs_bytes.specs.declared.ask.Kind.{Kind}
use Rattle.qs_bytes.specs.declared.ask.Kind.TheVariants.{Read, Write, Zero, Trim, Flush, Unknown}
use Rattle.qs_bytes.specs.declared.ask.Errno.TheVariants.{Perm, Io, NoMem, Inval, NoSpace, Shutdown}
use Rattle.qs_bytes.specs.declared.ask.Verdict.{Verdict}
use Rattle.qs_bytes.specs.declared.ask.Verdict.TheVariants.{Got, Fine, Refused, Dropped}
use Rattle.qs_part.specs.declared.graph.Route.{Route}
use Rattle.qs_part.specs.declared.stripe.Side.TheVariants.{Head, Tail}
use Rattle.qs_cells.specs.declared.cell.CellEntry.TheVariants.{Write as Written, Maybe}
use Rattle.qs_model.specs.Requests.{Client, Stage, is_read, edge, covers, body_at}
use Rattle.qs_model.specs.Acts.{Act, Enters, Routes, Shuts, Lists, Syncs, Cleans, SyncFails, Element, Asked, Did}
use Rattle.qs_model.specs.Histories.{answer_of, cell_at}
use Rattle.qs_model.specs.Laws.{ComesBehind}
use Rattle.qs_verdicts.specs.Lists.{IsAmong, IsRising}
use Rattle.qs_verdicts.specs.Stories.{Story, HasStory, Way, Unknown, Shut, Given, sent}

-- the kinds of request that are served
abbrev pub is_served : Kind → Bool
is_served Read = true
is_served Write = true
is_served Zero = true
is_served Trim = true
is_served Flush = true
is_served (Unknown n) = false

-- WRITE, WRITE_ZEROES and TRIM want leave to change the export: else EPERM
abbrev pub needs_leave : Kind → Bool
needs_leave Write = true
needs_leave Zero = true
needs_leave Trim = true
needs_leave _ = false

-- READ and TRIM want places that are there: else EINVAL
abbrev pub needs_places : Kind → Bool
needs_places Read = true
needs_places Trim = true
needs_places _ = false

-- WRITE and WRITE_ZEROES want room for bytes: else ENOSPC
abbrev pub needs_room : Kind → Bool
needs_room Write = true
needs_room Zero = true
needs_room _ = false

-- EINVAL: the type is none that is served, the flags don't fit, or a READ is longer than 33,554,432 bytes
abbrev pub is_malformed : Ask → Bool
is_malformed a = not (is_served a.kind) || not a.flags_fit || is_read a.kind && nat_lt max_payload a.length

-- the range passes the end of the export
abbrev pub passes : Ask → Route → Bool
passes a route = nat_lt route.size (a.offset + a.length)

-- the answer of a request that did all it had to do
abbrev pub done : Ask → List ℕ → Verdict
done a got = if is_read a.kind then Got got else Fine

-- The lines of a request that has its way: EPERM where a WRITE, WRITE_ZEROES or TRIM has no leave; EINVAL where a
-- READ or a TRIM passes the end, ENOSPC where a WRITE or WRITE_ZEROES does; EIO where a disk failed for it; else it
-- is done. A FLUSH may name any range.
abbrev pub reply_on_way : Ask → Route → Bool → List ℕ → Verdict
reply_on_way a route fault got =
    if needs_leave a.kind && not route.writable then Refused Perm
    else if needs_places a.kind && passes a route then Refused Inval
    else if needs_room a.kind && passes a route then Refused NoSpace
    else if fault then Refused Io
    else done a got

-- ESHUTDOWN where the export doesn't stand any more; no answer while the way isn't known
abbrev pub reply_by_way : Ask → Way → Bool → List ℕ → Option Verdict
reply_by_way a Unknown fault got = None
reply_by_way a Shut fault got = Some (Refused Shutdown)
reply_by_way a (Given route) fault got = Some (reply_on_way a route fault got)

-- all lines: the form first, then memory, then those that hang on the way
abbrev pub verdict_by_way : Ask → Bool → Way → Bool → List ℕ → Option Verdict
verdict_by_way a buffered way fault got =
    if is_malformed a then Some (Refused Inval)
    else if not buffered then Some (Refused NoMem)
    else reply_by_way a way fault got

-- the answer that a story asks for: none but Dropped where its session has left
abbrev pub verdict_of : Story → Option Verdict
verdict_of n = if n.left then Some Dropped else verdict_by_way n.client.ask n.client.buffered n.way n.fault n.got

-- the answers that a request may have that did something to a block or a stripe
abbrev pub MayWork : Verdict → Type 0
MayWork (Got bytes) = Unit {0}
MayWork Fine = Unit {0}
MayWork (Refused Io) = Unit {0}
MayWork Dropped = Unit {0}
MayWork _ = ⊥

-- the request r is answered so in this step
abbrev pub IsAnswered : ℕ → Verdict → Element → Type 0
IsAnswered r v (Did s q act) = (s ≡ r) × (answer_of q.dropped act ≡ Some v)
IsAnswered r v _ = ⊥

-- a WRITE or WRITE_ZEROES of some length with FUA: its bytes have to reach the disks before its answer
abbrev pub is_forced : Ask → Bool
is_forced a = needs_room a.kind && a.fua && not (a.length == 0)

-- some block from `first` to `final` is of stripe s
abbrev pub Meets : ℕ → ℕ → ℕ → Type 0
Meets first final s = (b : ℕ) × (first ≤ b) × (b ≤ final) × (stripe_of b ≡ s)

-- the stripes of the blocks that the request reaches, in rising order, and no others
pub record AreStripes (A : ℕ) (c : Client) (stripes : List ℕ) : Type 0 where
  pub rising : IsRising stripes
  pub each : (s : ℕ) → IsAmong s stripes ↔ Meets (edge A c Head) (edge A c Tail) s

-- An answer is the first line that applies. It is EIO exactly where a disk failed for the request, and Dropped
-- exactly where its session left. A request that did something to a block or a stripe isn't refused but for EIO. One
-- whose span was listed is answered only when a disk failed for it, or its last block was loaded or stored and, with
-- FUA, the stripes of its blocks were synced behind that. A FLUSH that is Fine has synced the eight stripes in order,
-- and a forced write those of its blocks; no other request syncs any.
pub record IsByTable (A : ℕ) (n : Story) (v : Verdict) : Type 0 where
  pub line : verdict_of n ≡ Some v
  pub io : n.left ≡ false → (v ≡ Refused Io) ↔ (n.fault ≡ true)
  pub dropped : (v ≡ Dropped) ↔ (n.left ≡ true)
  pub idle : n.worked ≡ true → MayWork v
  pub course : n.listed ≡ true →
      (n.fault ≡ true) ⊎ ((n.ended ≡ true) × (is_forced n.client.ask ≡ true → AreStripes A (sent n) n.synced))
  pub flushed : n.client.ask.kind ≡ Flush → v ≡ Fine → n.synced ≡ 0 ∷ 1 ∷ 2 ∷ 3 ∷ 4 ∷ 5 ∷ 6 ∷ 7 ∷ []
  pub forced : is_forced n.client.ask ≡ true → v ≡ Fine → AreStripes A (sent n) n.synced
  pub unsynced : n.client.ask.kind ≢ Flush → is_forced n.client.ask ≡ false → n.synced ≡ []

-- every answer
abbrev pub Verdicts : ℕ → List Element → Type 0
Verdicts A es = (r : ℕ) (v : Verdict) (before : List Element) (e : Element) → ComesBehind before e es →
    IsAnswered r v e →
    HasStory A r before (λ n. IsByTable A n v)

-- a row of Enter, Route or List
abbrev pub IsEarly : {stage : Stage} → Act stage → Type 0
IsEarly (Enters k) = Unit {0}
IsEarly (Routes route) = Unit {0}
IsEarly Shuts = Unit {0}
IsEarly (Lists m) = Unit {0}
IsEarly _ = ⊥

-- a row of Sync
abbrev pub IsSyncRow : {stage : Stage} → Act stage → Type 0
IsSyncRow Syncs = Unit {0}
IsSyncRow Cleans = Unit {0}
IsSyncRow SyncFails = Unit {0}
IsSyncRow _ = ⊥

-- some step made the request for this client
abbrev pub WasAskedAs : ℕ → Client → List Element → Type 0
WasAskedAs r c [] = ⊥
WasAskedAs r c (Asked s d ∷ es) = ((s ≡ r) × (d ≡ c)) ⊎ WasAskedAs r c es
WasAskedAs r c (e ∷ es) = WasAskedAs r c es

-- A step of a request is with the client that asked it, but for its way, which is the one that the graph gave. A
-- request whose session has left enters, asks for its way and lists no more. Only a FLUSH whose session is there
-- syncs, and a forced write.
pub record IsOwn (A r : ℕ) (c : Client) (d : Bool) {stage : Stage} (act : Act stage) (before : List Element)
    (n : Story) : Type 0 where
  pub client : c ≡ sent n
  pub dropped : d ≡ n.left
  pub asked : WasAskedAs r n.client before
  pub early : IsEarly act → n.left ≡ false
  pub sync : IsSyncRow act → ((n.client.ask.kind ≡ Flush) × (n.left ≡ false)) ⊎ (is_forced n.client.ask ≡ true)

abbrev pub IsOwnStep : ℕ → Element → List Element → Type 0
IsOwnStep A (Did r q act) before = HasStory A r before (IsOwn A r q.client q.dropped act before)
IsOwnStep A _ before = Unit {0}

abbrev pub Own : ℕ → List Element → Type 0
Own A es = (before : List Element) (e : Element) → ComesBehind before e es → IsOwnStep A e before

-- the byte v for place x is the client's own: of a WRITE or WRITE_ZEROES that covers x, and zero where that is a
-- WRITE_ZEROES
pub record IsOwnByte (n : Story) (x v : ℕ) : Type 0 where
  pub room : needs_room n.client.ask.kind ≡ true
  pub covered : covers (sent n) x ≡ true
  pub byte : v ≡ body_at (sent n) x
  pub zeros : n.client.ask.kind ≡ Zero → v ≡ 0

-- What a request writes at x is its client's own byte for x, and only where it covers x; a store that a disk refused,
-- too.
pub record OwnBytes (A : ℕ) (es : List Element) : Type 0 where
  pub write : (x r v : ℕ) (before : List Element) (e : Element) → ComesBehind before e es →
      cell_at A x e ≡ Written r v ∷ [] →
      HasStory A r before (λ n. IsOwnByte n x v)
  pub maybe : (x r v : ℕ) (took : Bool) (before : List Element) (e : Element) → ComesBehind before e es →
      cell_at A x e ≡ Maybe r v took ∷ [] →
      HasStory A r before (λ n. IsOwnByte n x v)
