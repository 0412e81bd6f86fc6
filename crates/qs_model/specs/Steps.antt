-- What a step does to the core. Where a part or a disk had a choice, it stands in the step.
use Rattle.std.specs.Prelude.{ℕ, ◌+◌, Bool, true, false, List, [], ◌∷◌, ◌==◌, Option, Some, None, if◌then◌else◌}
use Rattle.qs_bytes.specs.declared.ask.Verdict.TheVariants.{Refused}
use Rattle.qs_bytes.specs.declared.ask.Errno.TheVariants.{Io, Shutdown}
use Rattle.qs_outside.specs.declared.rigged_disk.Plans.{Plans}
use Rattle.qs_outside.specs.Rigged.{no_plans, planned_too}
use Rattle.qs_part.specs.declared.graph.GraphOp.TheVariants.{Attach, Detach}
use Rattle.qs_part.specs.declared.graph.GraphReply.TheVariants.{Added, Attached as AttachedReply, Detached as DetachedReply}
use Rattle.qs_part.specs.declared.tracker.TrackerOp.TheVariants.{Enter, Start, End}
use Rattle.qs_part.specs.declared.tracker.TrackerReply.TheVariants.{Entered, Listed, Started, Ended}
use Rattle.qs_graph.specs.Table.{after as graph_after}
use Rattle.qs_tracker.specs.Table.{TrackerValue, after as tracker_after}
use Rattle.qs_model.specs.Puts.{put, without}
use Rattle.qs_model.specs.Requests.{Client, Pads, Req, Stage, ToRoute, ToStart, ToEnd, In, edge, keep, new_request, routed, started, loaded, held, hold_failed, stored, store_failed, synced, abandon}
use Rattle.qs_model.specs.Worlds.{Image, Away, Live, Leaving, World, Opening, new_world}
use Rattle.qs_bytes.specs.Geometry.{stripe_of}
use Rattle.qs_model.specs.Acts.{Act, Answers, Waits, Enters, Routes, Shuts, Lists, Starts, Loads, LoadFails, Holds, HoldFails, Stores, StoreFails, Syncs, Cleans, SyncFails, Frees, Ends, Element, Attached, NoExport, Crowded, Left, Detached, NotAttached, Asked, Did, Exported, Planned, Crashed}
use Rattle.qs_model.specs.Guards.{list_op, CanCome}

abbrev pub request_if_kept : Client → Bool → Pads → Stage → Option Req
request_if_kept c dropped p stage = Some (record { client = c; dropped = dropped; pads = p; stage = stage })

-- the request after a row of its table; None where it has answered
abbrev pub moved : ℕ → Client → Bool → Pads → {stage : Stage} → Act stage → Option Req
moved A c d p Answers = None
moved A c d p (Waits {stage = stage} wait) = request_if_kept c d p stage
moved A c d p (Enters k) = request_if_kept c d p (In k ToRoute)
moved A c d p (Routes {k = k} route) = request_if_kept (record c { route = route }) d p
    (In k (routed (record c { route = route })))
moved A c d p (Shuts {k = k}) = request_if_kept c d p (In k (ToEnd (Refused Shutdown)))
moved A c d p (Lists {k = k} n) = request_if_kept c d p (In k ToStart)
moved A c d p (Starts {k = k}) = request_if_kept c d p (In k (started A c))
moved A c d p (Loads {k = k} {b = b} {got = got} bytes) = request_if_kept c d p (In k (loaded A c b got bytes))
moved A c d p (LoadFails {k = k}) = request_if_kept c d p (In k (ToEnd (Refused Io)))
moved A c d p (Holds {k = k} {side = side} bytes) = request_if_kept c d (keep p side bytes) (In k (held A c side))
moved A c d p (HoldFails {k = k} {side = side}) = request_if_kept c d p (In k (hold_failed A c side))
moved A c d p (Stores {k = k} {b = b} bytes past) = request_if_kept c d p (In k (stored A c b))
moved A c d p (StoreFails {k = k} {b = b} bytes took past) = request_if_kept c d p (In k (store_failed A c b))
moved A c d p (Syncs {k = k} {s = s}) = request_if_kept c d p (In k (synced A c s))
moved A c d p (Cleans {k = k} {s = s}) = request_if_kept c d p (In k (synced A c s))
moved A c d p (SyncFails {k = k}) = request_if_kept c d p (In k (ToEnd (Refused Io)))
moved A c d p (Frees {k = k}) = request_if_kept c d p (In k (ToEnd (Refused Io)))
moved A c d p Ends = None

-- the tracker after a row of the request table
abbrev pub tracked : ℕ → TrackerValue → Client → {stage : Stage} → Act stage → TrackerValue
tracked A t c (Enters k) = tracker_after t Enter (Entered k)
tracked A t c (Lists {k = k} n) = tracker_after t (list_op A c k) (Listed n)
tracked A t c (Starts {k = k}) = tracker_after t (Start k) Started
tracked A t c (Ends {k = k}) = tracker_after t (End k) Ended
tracked A t c _ = t

-- a block was written, or the disk refused and it has `now` all the same; the hold on it is gone
abbrev pub block_written : Image → ℕ → List ℕ → List (List ℕ) → Image
block_written i b now past = record {
  now = put i.now b now;
  past = put i.past b past;
  holder = put i.holder b None;
  clean = put i.clean (stripe_of b) false;
}

-- a stripe was synced: a crash leaves what its blocks hold now
abbrev pub stripe_settled : Image → ℕ → Image
stripe_settled i s = record i {
  past = λ b. if stripe_of b == s then i.now b ∷ [] else i.past b;
  clean = put i.clean s true;
}

-- the image after a row of the request table
abbrev pub imaged : ℕ → Image → Client → {stage : Stage} → Act stage → Image
imaged A i c (Holds {k = k} {side = side} bytes) =
    record i { holder = put i.holder (edge A c side) (Some (record { place = k; side = side })) }
imaged A i c (Stores {b = b} bytes past) = block_written i b bytes past
imaged A i c (StoreFails {b = b} bytes took past) = block_written i b (if took then bytes else i.now b) past
imaged A i c (Syncs {s = s}) = stripe_settled i s
imaged A i c (Frees {side = side}) = record i { holder = put i.holder (edge A c side) None }
imaged A i c _ = i

-- a load of a block spends the plan of its kind, and so do a store and a sync
abbrev pub load_done : (ℕ → Plans) → ℕ → (ℕ → Plans)
load_done plans b = put plans (stripe_of b) (record (plans (stripe_of b)) { load = false })

abbrev pub store_done : (ℕ → Plans) → ℕ → (ℕ → Plans)
store_done plans b = put plans (stripe_of b) (record (plans (stripe_of b)) { store = None })

abbrev pub sync_done : (ℕ → Plans) → ℕ → (ℕ → Plans)
sync_done plans s = put plans s (record (plans s) { sync = false })

-- the plans after a row of the request table
abbrev pub plans_spent : ℕ → (ℕ → Plans) → Client → {stage : Stage} → Act stage → (ℕ → Plans)
plans_spent A plans c (Loads {b = b} bytes) = load_done plans b
plans_spent A plans c (LoadFails {b = b}) = load_done plans b
plans_spent A plans c (Holds {side = side} bytes) = load_done plans (edge A c side)
plans_spent A plans c (HoldFails {side = side}) = load_done plans (edge A c side)
plans_spent A plans c (Stores {b = b} bytes past) = store_done plans b
plans_spent A plans c (StoreFails {b = b} bytes took past) = store_done plans b
plans_spent A plans c (Syncs {s = s}) = sync_done plans s
plans_spent A plans c (SyncFails {s = s}) = sync_done plans s
plans_spent A plans c _ = plans

-- each request of a session that leaves is abandoned
abbrev pub leaves : ℕ → Option Req → Option Req
leaves s None = None
leaves s (Some q) = Some (if q.client.session == s then abandon q else q)

-- the disks and the file node as a crash leaves them: each block is what was left, and nothing is planned
abbrev pub crashed : World → (ℕ → List ℕ) → Opening
crashed w left = record {
  tells = w.tells;
  plans = λ j. no_plans;
  now = left;
  past = λ b. left b ∷ [];
  clean = λ s. true;
  size = w.graph.size;
  file = w.graph.file;
  read_only = w.graph.read_only;
}

-- the core after a step
abbrev pub happens : ℕ → World → Element → World
happens A w (Attached s name info) = record w {
  session = put w.session s (Live info.e);
  graph = graph_after w.graph (Attach name) (AttachedReply info);
  clients = put w.clients info.e (s ∷ w.clients info.e);
}
happens A w (NoExport s name) = w
happens A w (Crowded s name) = w
happens A w (Left s e) = record w { session = put w.session s (Leaving e); req = λ r. leaves s (w.req r) }
happens A w (Detached s e) = record w {
  session = put w.session s Away;
  graph = graph_after w.graph (Detach e) DetachedReply;
  clients = put w.clients e (without s (w.clients e));
}
happens A w (NotAttached s e) = w
happens A w (Asked r c) = record w { next = w.next + 1; req = put w.req r (Some (new_request c)) }
happens A w (Did r q act) = record w {
  req = put w.req r (moved A q.client q.dropped q.pads act);
  tracker = tracked A w.tracker q.client act;
  image = imaged A w.image q.client act;
  plans = plans_spent A w.plans q.client act;
}
happens A w (Exported op e) = record w { graph = graph_after w.graph op (Added e) }
happens A w (Planned j fail) = record w { plans = put w.plans j (planned_too fail (w.plans j)) }
happens A w (Crashed left) = new_world w.next (crashed w left)

-- the core after a list of steps
abbrev pub world_after : ℕ → World → List Element → World
world_after A w [] = w
world_after A w (e ∷ es) = world_after A (happens A w e) es

-- a run: each step may happen where the steps before it lead
abbrev pub Runs : ℕ → World → List Element → Type 0
Runs A w [] = Unit {0}
Runs A w (e ∷ es) = CanCome A w e × Runs A (happens A w e) es
