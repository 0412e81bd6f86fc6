-- Sessions that come and go, and requests that are made, are steps of the core.
use Rattle.std.proofs.Common.{◌≡◌, ℕ, ◌+◌, ◌-◌, ◌^◌, ◌<◌, ◌⊎◌, List, [], length, true, false, refl, sym, ◌∙◌, ap, subst}
use Rattle.std.specs.Prelude.{Some}
use Rattle.qs_outside.specs.Blocks.{Seen}
use Rattle.qs_part.specs.declared.graph.ExportInfo.{ExportInfo}
use Rattle.qs_part.specs.declared.graph.GraphOp.{GraphOp}
use Rattle.qs_part.specs.declared.graph.GraphReply.{GraphReply}
use Rattle.qs_part.specs.declared.graph.GraphOp.TheVariants.{Attach, Detach}
use Rattle.qs_part.specs.declared.graph.GraphReply.TheVariants.{Attached as AttachedReply, NoExport as NoExportReply, Crowded as CrowdedReply, Detached as DetachedReply, NotAttached as NotAttachedReply, Added}
use Rattle.qs_model.specs.Puts.{put}
use Rattle.qs_model.specs.Requests.{Client, new_request, brings_bytes, no_route, wants_buffers}
use Rattle.qs_model.specs.Worlds.{Away, Live, Leaving, World}
use Rattle.qs_model.specs.Acts.{Element, Attached, NoExport, Crowded, Left, Detached, NotAttached, Asked, Exported}
use Rattle.qs_model.specs.Guards.{CanCome, HasRequest}
use Rattle.qs_model.specs.Steps.{happens, leaves}
use Rattle.qs_graph.specs.Table.{GraphValue, May as GraphMay, after, answers}
use Rattle.qs_world.specs.Events.{Does, HasRequest as HasRequestHere}
use Rattle.qs_world.specs.Images.{StandsImage, StandsPlans, stripe_at, all_tell}
use Rattle.qs_world.specs.Stands.{Stands}
use Rattle.qs_world.specs.Values.{WorldValue, request_at, session_at, stripes_of}
use Rattle.qs_world.proofs.Doing.{put_same}

-- what events of sessions leave alone
pub record Keeps {D : Type 0} (old new : WorldValue D) : Type 0 where
  pub shape : new.shape ≡ old.shape
  pub tracker : new.tracker ≡ old.tracker
  pub stripes : new.stripes ≡ old.stripes

-- the image that was kept
kept_image : {D : Type 0} (seen : D → Seen) (old new : WorldValue D) (m : World) → Keeps old new → StandsImage (stripe_at (stripes_of seen old)) m.tells m.image →
    StandsImage (stripe_at (stripes_of seen new)) m.tells m.image
kept_image seen old new m keeps stands = rw keeps.stripes stands

kept_plans : {D : Type 0} (seen : D → Seen) (old new : WorldValue D) (m : World) → Keeps old new → StandsPlans (stripe_at (stripes_of seen old)) m.plans →
    StandsPlans (stripe_at (stripes_of seen new)) m.plans
kept_plans seen old new m keeps stands = rw keeps.stripes stands

kept_tells : {D : Type 0} (seen : D → Seen) (old new : WorldValue D) (m : World) → Keeps old new → m.tells ≡ all_tell (stripes_of seen old) →
    m.tells ≡ all_tell (stripes_of seen new)
kept_tells seen old new m keeps tells = rw keeps.stripes tells

-- what the graph may answer, the model's may
pub graph_may : (v g : GraphValue) (op : GraphOp) (reply : GraphReply) → g ≡ v → GraphMay v op reply → GraphMay g op reply
graph_may v g op reply same may = subst (λ (x : GraphValue). GraphMay x op reply) (sym same) may

pub attached_does : {D : Type 0} (seen : D → Seen) (old new : WorldValue D) (s : ℕ) (name : List ℕ) (info : ExportInfo) → Keeps old new →
    new.next ≡ old.next → new.requests ≡ old.requests → session_at old.sessions s ≡ Away →
    answers old.graph (Attach name) (AttachedReply info) new.graph →
    ((j : ℕ) → session_at new.sessions j ≡ put (session_at old.sessions) s (Live info.e) j) → Does seen old (Attached s name info) new
attached_does seen old new s name info keeps next requests away row sessions m stands = (
  (stands.session s ∙ away, graph_may old.graph m.graph (Attach name) (AttachedReply info) stands.graph row.0),
  record {
    tells = kept_tells seen old new m keeps stands.tells;
    next = stands.next ∙ sym next;
    request = λ r. rw requests (stands.request r);
    session = λ t. put_same m.session (session_at old.sessions) s (Live info.e) stands.session t ∙ sym (sessions t);
    graph = ap (λ (v : GraphValue). after v (Attach name) (AttachedReply info)) stands.graph ∙ sym row.1;
    tracker = stands.tracker ∙ sym keeps.tracker;
    image = kept_image seen old new m keeps stands.image;
    plans = kept_plans seen old new m keeps stands.plans;
  },
)

-- nothing changed
pub refused_does : {D : Type 0} (seen : D → Seen) (old new : WorldValue D) (e : Element) → new ≡ old →
    ((m : World) → Stands seen old m → CanCome old.shape.align m e × (happens old.shape.align m e ≡ m)) → Does seen old e new
refused_does seen old new e same may m stands =
    let done = may m stands in
    (done.0, subst (λ (w : World). Stands seen new w) (sym done.1) (subst (λ (w : WorldValue _). Stands seen w m) (sym same) stands))

pub no_export_does : {D : Type 0} (seen : D → Seen) (old new : WorldValue D) (s : ℕ) (name : List ℕ) (graph : GraphValue) → session_at old.sessions s ≡ Away →
    answers old.graph (Attach name) NoExportReply graph → new ≡ old → Does seen old (NoExport s name) new
no_export_does seen old new s name graph away row same =
    refused_does seen old new (NoExport s name) same (λ m stands. ((stands.session s ∙ away, graph_may old.graph m.graph (Attach name) NoExportReply stands.graph row.0), refl))

pub crowded_does : {D : Type 0} (seen : D → Seen) (old new : WorldValue D) (s : ℕ) (name : List ℕ) (graph : GraphValue) → session_at old.sessions s ≡ Away →
    answers old.graph (Attach name) CrowdedReply graph → new ≡ old → Does seen old (Crowded s name) new
crowded_does seen old new s name graph away row same =
    refused_does seen old new (Crowded s name) same (λ m stands. ((stands.session s ∙ away, graph_may old.graph m.graph (Attach name) CrowdedReply stands.graph row.0), refl))

pub left_does : {D : Type 0} (seen : D → Seen) (old new : WorldValue D) (s e : ℕ) → Keeps old new → new.next ≡ old.next → new.graph ≡ old.graph →
    session_at old.sessions s ≡ Live e → ((j : ℕ) → session_at new.sessions j ≡ put (session_at old.sessions) s (Leaving e) j) →
    ((r : ℕ) → request_at new.requests r ≡ leaves s (request_at old.requests r)) → Does seen old (Left s e) new
left_does seen old new s e keeps next graph live sessions requests m stands =
    let is : m.session s ≡ Live e = stands.session s ∙ live in (
      is,
      record {
        tells = kept_tells seen old new m keeps stands.tells;
        next = stands.next ∙ sym next;
        request = λ r. ap (leaves s) (stands.request r) ∙ sym (requests r);
        session = λ t. put_same m.session (session_at old.sessions) s (Leaving e) stands.session t ∙ sym (sessions t);
        graph = stands.graph ∙ sym graph;
        tracker = stands.tracker ∙ sym keeps.tracker;
        image = kept_image seen old new m keeps stands.image;
        plans = kept_plans seen old new m keeps stands.plans;
      },
    )

-- the core has no request of a session where the model has none
no_request : {D : Type 0} (seen : D → Seen) (old : WorldValue D) (m : World) (s : ℕ) → Stands seen old m → (HasRequestHere old s → ⊥) → HasRequest m s → ⊥
no_request seen old m s stands never h = never (h.0, h.1, (sym (stands.request h.0) ∙ h.2.0, h.2.1))

pub detached_does : {D : Type 0} (seen : D → Seen) (old new : WorldValue D) (s e : ℕ) → Keeps old new → new.next ≡ old.next → new.requests ≡ old.requests →
    session_at old.sessions s ≡ Leaving e → (HasRequestHere old s → ⊥) → answers old.graph (Detach e) DetachedReply new.graph →
    ((j : ℕ) → session_at new.sessions j ≡ put (session_at old.sessions) s Away j) → Does seen old (Detached s e) new
detached_does seen old new s e keeps next requests leaving none row sessions m stands = (
  ((stands.session s ∙ leaving, no_request seen old m s stands none), graph_may old.graph m.graph (Detach e) DetachedReply stands.graph row.0),
  record {
    tells = kept_tells seen old new m keeps stands.tells;
    next = stands.next ∙ sym next;
    request = λ r. rw requests (stands.request r);
    session = λ t. put_same m.session (session_at old.sessions) s Away stands.session t ∙ sym (sessions t);
    graph = ap (λ (v : GraphValue). after v (Detach e) DetachedReply) stands.graph ∙ sym row.1;
    tracker = stands.tracker ∙ sym keeps.tracker;
    image = kept_image seen old new m keeps stands.image;
    plans = kept_plans seen old new m keeps stands.plans;
  },
)

pub not_attached_does : {D : Type 0} (seen : D → Seen) (old new : WorldValue D) (s e : ℕ) (graph : GraphValue) → session_at old.sessions s ≡ Leaving e →
    (HasRequestHere old s → ⊥) → answers old.graph (Detach e) NotAttachedReply graph → new ≡ old → Does seen old (NotAttached s e) new
not_attached_does seen old new s e graph leaving none row same =
    refused_does seen old new (NotAttached s e) same (λ m stands.
    (((stands.session s ∙ leaving, no_request seen old m s stands none), graph_may old.graph m.graph (Detach e) NotAttachedReply stands.graph row.0), refl))

pub asked_does : {D : Type 0} (seen : D → Seen) (old new : WorldValue D) (c : Client) → Keeps old new → new.next ≡ old.next + 1 → new.graph ≡ old.graph →
    new.sessions ≡ old.sessions → old.next < 2 ^ 64 - 1 → session_at old.sessions c.session ≡ Live c.export → c.route ≡ no_route →
    (wants_buffers c.ask ≡ false → c.buffered ≡ true) → (brings_bytes c.ask.kind ≡ true → c.buffered ≡ true → length c.body ≡ c.ask.length) →
    (brings_bytes c.ask.kind ≡ true → c.buffered ≡ false → (c.body ≡ []) ⊎ (length c.body ≡ c.ask.length)) → (brings_bytes c.ask.kind ≡ false → c.body ≡ []) →
    ((r : ℕ) → request_at new.requests r ≡ put (request_at old.requests) old.next (Some (new_request c)) r) → Does seen old (Asked old.next c) new
asked_does seen old new c keeps next graph sessions room live unrouted buffered body refused other requests m stands = (
  record {
    next = sym stands.next;
    room = room;
    live = stands.session c.session ∙ live;
    unrouted = unrouted;
    buffered = buffered;
    body = body;
    refused = refused;
    other = other;
  },
  record {
    tells = kept_tells seen old new m keeps stands.tells;
    next = ap (λ (n : ℕ). n + 1) stands.next ∙ sym next;
    request = λ r. put_same m.req (request_at old.requests) old.next (Some (new_request c)) stands.request r ∙ sym (requests r);
    session = λ t. rw sessions (stands.session t);
    graph = stands.graph ∙ sym graph;
    tracker = stands.tracker ∙ sym keeps.tracker;
    image = kept_image seen old new m keeps stands.image;
    plans = kept_plans seen old new m keeps stands.plans;
  },
)

-- an export is made
pub exported_does : {D : Type 0} (seen : D → Seen) (old new : WorldValue D) (op : GraphOp) (e : ℕ) → Keeps old new →
    new.next ≡ old.next → new.requests ≡ old.requests → new.sessions ≡ old.sessions → answers old.graph op (Added e) new.graph →
    Does seen old (Exported op e) new
exported_does seen old new op e keeps next requests sessions row m stands = (
  graph_may old.graph m.graph op (Added e) stands.graph row.0,
  record {
    tells = kept_tells seen old new m keeps stands.tells;
    next = stands.next ∙ sym next;
    request = λ r. rw requests (stands.request r);
    session = λ t. rw sessions (stands.session t);
    graph = ap (λ (v : GraphValue). after v op (Added e)) stands.graph ∙ sym row.1;
    tracker = stands.tracker ∙ sym keeps.tracker;
    image = kept_image seen old new m keeps stands.image;
    plans = kept_plans seen old new m keeps stands.plans;
  },
)
