-- When a step may happen: what the parts' tables say of each answer.
use Rattle.std.specs.Prelude.{◌≡◌, ◌≢◌, ℕ, ◌-◌, ◌^◌, ◌<◌, ◌⊎◌, true, false, List, [], length, Some, None, IsTrue, get_or, Contains, if◌then◌else◌}
use Rattle.std.specs.List.{AllByRecursion}
use Rattle.qs_bytes.specs.Spans.{aligned_out}
use Rattle.qs_part.specs.declared.graph.GraphOp.TheVariants.{Attach, Detach, Route}
use Rattle.qs_part.specs.declared.graph.GraphReply.TheVariants.{Added, Attached as AttachedReply, NoExport as NoExportReply, Crowded as CrowdedReply, Detached as DetachedReply, NotAttached as NotAttachedReply, Routed, Shutting}
use Rattle.qs_part.specs.declared.stripe.Side.{Side}
use Rattle.qs_part.specs.declared.tracker.TrackerOp.{TrackerOp}
use Rattle.qs_part.specs.declared.tracker.TrackerOp.TheVariants.{Enter, List as ListOp, Start, End}
use Rattle.qs_part.specs.declared.tracker.TrackerReply.TheVariants.{Entered, Quiesced as QuiescedReply, Full as FullReply, Listed, Strange as StrangeReply, Started, NotYet as NotYetReply, Ended}
use Rattle.qs_graph.specs.Table.{May as GraphMay}
use Rattle.qs_tracker.specs.Table.{May as TrackerMay}
use Rattle.qs_model.specs.Requests.{Client, Pads, Req, Stage, ToList, ToStart, ToHold, ToStore, ToFree, ToEnd, Entering, In, brings_bytes, edge, merged_at, no_route, serial, span_of, wants_buffers}
use Rattle.qs_model.specs.Worlds.{Hold, Image, Away, Live, Leaving, World}
use Rattle.qs_bytes.specs.Geometry.{stripe_of}
use Rattle.qs_model.specs.Acts.{Act, Answers, Waits, Enters, Routes, Shuts, Lists, Starts, Loads, LoadFails, Holds, HoldFails, Stores, StoreFails, Syncs, Cleans, SyncFails, Frees, Ends, Wait, Quiesced, Full, NotYet, HeldBy, Taken, Strange, NotHeld, Element, Attached, NoExport, Crowded, Left, Detached, NotAttached, Asked, Did, Exported, Planned, Crashed}

-- what the tracker is asked to list for a request: the whole blocks that its span reaches
abbrev pub list_op : ℕ → Client → ℕ → TrackerOp
list_op A c k = ListOp k (aligned_out (span_of c) A) (serial A c)

-- A block's bytes were read; where the disks tell their content, they are what it holds. No load was planned
-- to fail.
pub record CanRead (A : ℕ) (w : World) (b : ℕ) (bytes : List ℕ) : Type 0 where
  pub whole : length bytes ≡ A
  pub now : IsTrue w.tells → bytes ≡ w.image.now b
  pub planned : (w.plans (stripe_of b)).load ≡ false

-- Hold: nobody holds the block, and the place holds no other block of the stripe for this end
pub record CanHold (i : Image) (k b : ℕ) (side : Side) : Type 0 where
  pub free : i.holder b ≡ None
  pub one : (c : ℕ) → stripe_of c ≡ stripe_of b → i.holder c ≢ Some (record { place = k; side = side })

-- Store: nobody else holds the block. It gets the covered bytes, and the kept pad's bytes outside.
-- What a crash may leave of it is something from before, or these bytes.
pub record CanStore (A : ℕ) (i : Image) (k : ℕ) (c : Client) (p : Pads) (b : ℕ) (bytes : List ℕ)
    (past : List (List ℕ)) : Type 0 where
  pub free : (h : Hold) → i.holder b ≡ Some h → h.place ≡ k
  pub whole : length bytes ≡ A
  pub merged : (x : ℕ) → x < A → get_or bytes x 0 ≡ merged_at A c p b x
  pub older : AllByRecursion (λ d. (d ≡ bytes) ⊎ Contains (i.past b) d) past

-- a crash may leave what the block holds now, if it might before
abbrev pub MayKeep : World → ℕ → List ℕ → List (List ℕ) → Type 0
MayKeep w b now past = IsTrue w.tells → Contains (w.image.past b) (w.image.now b) → Contains past now

-- the answers that leave a request where it is, each where its part's table says so
abbrev pub MayWait : ℕ → World → Client → Stage → Wait → Type 0
MayWait A w c Entering Quiesced = TrackerMay w.tracker Enter QuiescedReply
MayWait A w c Entering Full = TrackerMay w.tracker Enter FullReply
MayWait A w c (In k ToList) Strange = TrackerMay w.tracker (list_op A c k) StrangeReply
MayWait A w c (In k ToStart) (NotYet n) = TrackerMay w.tracker (Start k) (NotYetReply n)
MayWait A w c (In k ToStart) Strange = TrackerMay w.tracker (Start k) StrangeReply
MayWait A w c (In k (ToHold side)) (HeldBy j) = (h : Hold) × ((w.image.holder (edge A c side) ≡ Some h) × (h.place ≡ j))
MayWait A w c (In k (ToHold side)) (Taken b) =
    (w.image.holder (edge A c side) ≡ None) × (stripe_of b ≡ stripe_of (edge A c side))
    × (w.image.holder b ≡ Some (record { place = k; side = side }))
MayWait A w c (In k (ToStore b)) (HeldBy j) = (h : Hold) × ((w.image.holder b ≡ Some h) × (h.place ≡ j) × (j ≢ k))
MayWait A w c (In k (ToFree side)) NotHeld = (h : Hold) → w.image.holder (edge A c side) ≡ Some h → h.place ≢ k
MayWait A w c (In k (ToEnd v)) Strange = TrackerMay w.tracker (End k) StrangeReply
MayWait A w c _ _ = ⊥

-- the rows of the request table, by the tables of the parts
abbrev pub MayDo : ℕ → World → Client → Pads → {stage : Stage} → Act stage → Type 0
MayDo A w c p Answers = Unit {0}
MayDo A w c p (Waits {stage = stage} wait) = MayWait A w c stage wait
MayDo A w c p (Enters k) = TrackerMay w.tracker Enter (Entered k)
MayDo A w c p (Routes route) = GraphMay w.graph (Route c.export) (Routed route)
MayDo A w c p Shuts = GraphMay w.graph (Route c.export) Shutting
MayDo A w c p (Lists {k = k} n) = TrackerMay w.tracker (list_op A c k) (Listed n)
MayDo A w c p (Starts {k = k}) = TrackerMay w.tracker (Start k) Started
MayDo A w c p (Loads {b = b} bytes) = CanRead A w b bytes
MayDo A w c p LoadFails = Unit {0}
MayDo A w c p (Holds {k = k} {side = side} bytes) = CanHold w.image k (edge A c side) side
    × CanRead A w (edge A c side) bytes
MayDo A w c p (HoldFails {k = k} {side = side}) = CanHold w.image k (edge A c side) side
MayDo A w c p (Stores {k = k} {b = b} bytes past) =
    CanStore A w.image k c p b bytes past × MayKeep w b bytes past × ((w.plans (stripe_of b)).store ≡ None)
MayDo A w c p (StoreFails {k = k} {b = b} bytes took past) =
    CanStore A w.image k c p b bytes past × MayKeep w b (if took then bytes else w.image.now b) past
MayDo A w c p (Syncs {s = s}) = (w.image.clean s ≡ false) × ((w.plans s).sync ≡ false)
MayDo A w c p (Cleans {s = s}) = w.image.clean s ≡ true
MayDo A w c p (SyncFails {s = s}) = w.image.clean s ≡ false
MayDo A w c p (Frees {k = k} {side = side}) = (h : Hold) × ((w.image.holder (edge A c side) ≡ Some h) × (h.place ≡ k))
MayDo A w c p (Ends {k = k}) = TrackerMay w.tracker (End k) Ended

-- A request is made for a session that is attached. It has no way yet; one that wants no buffer was refused none; a
-- WRITE has the bytes that it announced, or none where its buffers were refused, and no other request has any.
pub record CanAsk (w : World) (r : ℕ) (c : Client) : Type 0 where
  pub next : r ≡ w.next
  pub room : r < 2 ^ 64 - 1
  pub live : w.session c.session ≡ Live c.export
  pub unrouted : c.route ≡ no_route
  pub buffered : wants_buffers c.ask ≡ false → c.buffered ≡ true
  pub body : brings_bytes c.ask.kind ≡ true → c.buffered ≡ true → length c.body ≡ c.ask.length
  pub refused : brings_bytes c.ask.kind ≡ true → c.buffered ≡ false → (c.body ≡ []) ⊎ (length c.body ≡ c.ask.length)
  pub other : brings_bytes c.ask.kind ≡ false → c.body ≡ []

-- a request of this session is still there
abbrev pub HasRequest : World → ℕ → Type 0
HasRequest w s = (r : ℕ) × (q : Req) × ((w.req r ≡ Some q) × (q.client.session ≡ s))

-- a session that has left and has no request any more
abbrev pub CanDetach : World → ℕ → ℕ → Type 0
CanDetach w s e = (w.session s ≡ Leaving e) × (HasRequest w s → ⊥)

-- what may happen next
abbrev pub CanCome : ℕ → World → Element → Type 0
CanCome A w (Attached s name info) = (w.session s ≡ Away) × GraphMay w.graph (Attach name) (AttachedReply info)
CanCome A w (NoExport s name) = (w.session s ≡ Away) × GraphMay w.graph (Attach name) NoExportReply
CanCome A w (Crowded s name) = (w.session s ≡ Away) × GraphMay w.graph (Attach name) CrowdedReply
CanCome A w (Left s e) = w.session s ≡ Live e
CanCome A w (Detached s e) = CanDetach w s e × GraphMay w.graph (Detach e) DetachedReply
CanCome A w (NotAttached s e) = CanDetach w s e × GraphMay w.graph (Detach e) NotAttachedReply
CanCome A w (Asked r c) = CanAsk w r c
CanCome A w (Did r q act) = (w.req r ≡ Some q) × MayDo A w q.client q.pads act
CanCome A w (Exported op e) = GraphMay w.graph op (Added e)
CanCome A w (Planned j fail) = j < 8
CanCome A w (Crashed left) = (b : ℕ) → IsTrue w.tells → Contains (w.image.past b) (left b)
