use Rattle.std.proofs.Common.{ℕ, ◌<◌, ◌∙◌, length, refl, sym, ap, subst, arith}
use Rattle.std.specs.Prelude.{None}
use Rattle.std.specs.List.{slice_set}
use Rattle.qs_part.specs.declared.event.Outcome.TheVariants.{Answered}
use Rattle.qs_part.specs.declared.event.OpKind.{OpKind}
use Rattle.qs_request_state.specs.declared.shape.Shape.{Shape}
use Rattle.qs_request.specs.declared.todo.PartReply.TheVariants.{Tracker as ByTracker, Graph as ByGraph, Stripe as ByStripe}
use Rattle.qs_request.specs.declared.todo.Todo.TheVariants.{Tracker as OnTracker, Route as OnRoute, Stripe as OnStripe, Answer}
use Rattle.qs_request.specs.Table.{WantsAt, FitsStripe}
use Rattle.qs_stripe.specs.Table.{value_of as stripe_value, geometry, Fits as FitsHere}
use Rattle.qs_stripe.specs.declared.geometry.Geometry.{Geometry}
use Rattle.qs_world.specs.declared.live.Live.{Live}
use Rattle.qs_world.specs.Cores.{StepsRequest, value_of}
use Rattle.qs_world.specs.Notes.{tracker_note, tracker_kind, stripe_note, stripe_kind, note_place}
use Rattle.qs_world.proofs.Answering.{idle_at}
use Rattle.qs_world.proofs.Indexing.{awaits_reply, follow_tells, one_element, stripe_here}
use Rattle.qs_world.proofs.Keyed.{element, remove_set}
use Rattle.qs_world.proofs.PartSteps.{tracker_steps, graph_steps, stripe_steps}
use Rattle.qs_world.proofs.Ready.{answer_steps}
use Rattle.qs_world.proofs.Replies.{tracker_may, graph_may, stripe_may, stripe_fits, stripe_below}
use Rattle.qs_world.proofs.inner.Core.step_at.Goals as goal

pub follow-requires-clause-awaits : goal.follow-requires-clause-awaits
follow-requires-clause-awaits g c = λ l e.
    let x : Live = c.index_mut.result.now in
    let at = element c.args.self.now.requests.items c.args.at x c.requires.inside c.index_mut.ensures.value in
    let idle = idle_at (value_of c.args.self.now) c.args.at x c.requires.sound.requests at in
    awaits_reply c.args.self.now.requests.items c.args.at x l c.next.new.self (ByTracker c.step-reply.result) c.requires.inside c.in-Tracker.ensures.gives idle.answered
    (tracker_may x.request.value.shape.align x.request.value.request.client x.request.value.request.pads x.request.value.request.stage c.in-Tracker.op c.step-reply.result
    c.args.self.now.tracker c.step-reply.new.self c.requires.sound.seats
    c.in-Tracker.ensures.wants c.step-reply.ensures.legal) e

pub follow-requires-in-Route-clause-awaits : goal.follow-requires-in-Route-clause-awaits
follow-requires-in-Route-clause-awaits g c = λ l e.
    let x : Live = c.index_mut.result.now in
    let at = element c.args.self.now.requests.items c.args.at x c.requires.inside c.index_mut.ensures.value in
    let idle = idle_at (value_of c.args.self.now) c.args.at x c.requires.sound.requests at in
    awaits_reply c.args.self.now.requests.items c.args.at x l c.next.new.self (ByGraph c.step-reply-in-Route.result) c.requires.inside c.in-Route.ensures.gives idle.answered
    (graph_may x.request.value.shape.align x.request.value.request.client x.request.value.request.pads x.request.value.request.stage x.request.value.shape c.in-Route.e c.step-reply-in-Route.result
    c.args.self.now.graph c.step-reply-in-Route.new.self (c.requires.sound.size ∙ ap (λ (s : Shape). s.size) (sym idle.shape_is))
    c.in-Route.ensures.wants c.step-reply-in-Route.ensures.legal) e

pub one-reply-requires : goal.one-reply-requires
one-reply-requires g c =
    let x : Live = c.index_mut.result.now in
    let at = element c.args.self.now.requests.items c.args.at x c.requires.inside c.index_mut.ensures.value in
    let idle = idle_at (value_of c.args.self.now) c.args.at x c.requires.sound.requests at in
    let fits : FitsStripe c.args.self.now.shape c.in-Stripe.stripe c.in-Stripe.op =
    subst (λ (s : Shape). FitsStripe s c.in-Stripe.stripe c.in-Stripe.op) idle.shape_is c.in-Stripe.ensures.fits in
    let below : c.from.result < 8 = rw c.from.ensures (stripe_below c.args.self.now.shape c.in-Stripe.stripe c.in-Stripe.op fits) in
    let inside : c.from.result < length c.args.self.now.stripes.items = omega (arith, below, c.requires.sound.count) in
    let here = stripe_here g.D.Disk.seen (value_of c.args.self.now) c.from.result c.index_mut-in-Stripe.result.now inside c.index_mut-in-Stripe.ensures.value in
    subst (λ (s : Geometry). FitsHere s c.in-Stripe.op)
    (sym (c.requires.sound.stripes c.from.result below) ∙ ap geometry here)
    (rw c.from.ensures (stripe_fits c.args.self.now.shape c.in-Stripe.stripe c.in-Stripe.op fits))

pub follow-requires-in-Stripe-clause-awaits : goal.follow-requires-in-Stripe-clause-awaits
follow-requires-in-Stripe-clause-awaits g c = λ l e.
    let x : Live = c.index_mut.result.now in
    let at = element c.args.self.now.requests.items c.args.at x c.requires.inside c.index_mut.ensures.value in
    let idle = idle_at (value_of c.args.self.now) c.args.at x c.requires.sound.requests at in
    let fits : FitsStripe c.args.self.now.shape c.in-Stripe.stripe c.in-Stripe.op =
    subst (λ (s : Shape). FitsStripe s c.in-Stripe.stripe c.in-Stripe.op) idle.shape_is c.in-Stripe.ensures.fits in
    let below : c.from.result < 8 = rw c.from.ensures (stripe_below c.args.self.now.shape c.in-Stripe.stripe c.in-Stripe.op fits) in
    let inside : c.from.result < length c.args.self.now.stripes.items = omega (arith, below, c.requires.sound.count) in
    let here = stripe_here g.D.Disk.seen (value_of c.args.self.now) c.from.result c.index_mut-in-Stripe.result.now inside c.index_mut-in-Stripe.ensures.value in
    awaits_reply c.args.self.now.requests.items c.args.at x l c.next.new.self (ByStripe c.one-reply.result) c.requires.inside c.in-Stripe.ensures.gives idle.answered
    (stripe_may x.request.value.request.client x.request.value.request.pads x.request.value.request.stage x.request.value.shape c.in-Stripe.stripe c.in-Stripe.op c.one-reply.result
    (stripe_value g.D.Disk.seen c.index_mut-in-Stripe.result.now) (stripe_value g.D.Disk.seen c.one-reply.new.self)
    (sym (ap (λ (s : Geometry). s.align) (ap geometry here)) ∙ ap (λ (s : Geometry). s.align) (c.requires.sound.stripes c.from.result below)
    ∙ ap (λ (s : Shape). s.align) (sym idle.shape_is))
    c.in-Stripe.ensures.wants c.one-reply.ensures.row) e

pub returns-in-Tracker : goal.returns-in-Tracker
returns-in-Tracker g c = λ l e.
    let x : Live = c.index_mut.result.now in
    let at = element c.args.self.now.requests.items c.args.at x c.requires.inside c.index_mut.ensures.value in
    let idle = idle_at (value_of c.args.self.now) c.args.at x c.requires.sound.requests at in
    let wants : WantsAt c.args.self.now.shape.align x.request.value.request.client x.request.value.request.pads x.request.value.request.stage (OnTracker c.in-Tracker.op) =
    subst (λ (s : Shape). WantsAt s.align x.request.value.request.client x.request.value.request.pads x.request.value.request.stage (OnTracker c.in-Tracker.op)) idle.shape_is
    c.in-Tracker.ensures.wants in
    subst (λ (y : Live). StepsRequest g.D.Disk.seen (value_of c.args.self.now) y.number c.follow.result
    (record (value_of c.args.self.now) { requests = c.follow.new.requests.items; tracker = c.step-reply.new.self }))
    (one_element c.args.self.now.requests.items c.args.at x l at e)
    (tracker_steps g.D.Disk.seen (value_of c.args.self.now) (record (value_of c.args.self.now) { requests = c.follow.new.requests.items; tracker = c.step-reply.new.self })
    c.args.at x c.in-Tracker.op c.step-reply.result c.follow.result c.requires.sound at wants
    c.step-reply.ensures.legal refl refl refl refl refl
    (follow_tells c.args.self.now.requests.items c.args.at x c.next.new.self (ByTracker c.step-reply.result) (tracker_note (tracker_kind c.in-Tracker.op) c.step-reply.result)
    c.tracker_note-note.result c.follow.result c.follow.new.requests.items c.requires.inside c.in-Tracker.ensures.gives
    (c.tracker_note-note.ensures ∙ ap (λ (k : OpKind). tracker_note k c.step-reply.result) c.tracker_kind-kind.ensures) c.follow.ensures))

pub returns-in-Route : goal.returns-in-Route
returns-in-Route g c = λ l e.
    let x : Live = c.index_mut.result.now in
    let at = element c.args.self.now.requests.items c.args.at x c.requires.inside c.index_mut.ensures.value in
    let idle = idle_at (value_of c.args.self.now) c.args.at x c.requires.sound.requests at in
    let wants : WantsAt c.args.self.now.shape.align x.request.value.request.client x.request.value.request.pads x.request.value.request.stage (OnRoute c.in-Route.e) =
    subst (λ (s : Shape). WantsAt s.align x.request.value.request.client x.request.value.request.pads x.request.value.request.stage (OnRoute c.in-Route.e)) idle.shape_is
    c.in-Route.ensures.wants in
    subst (λ (y : Live). StepsRequest g.D.Disk.seen (value_of c.args.self.now) y.number c.follow-in-Route.result
    (record (value_of c.args.self.now) { requests = c.follow-in-Route.new.requests.items; graph = c.step-reply-in-Route.new.self }))
    (one_element c.args.self.now.requests.items c.args.at x l at e)
    (graph_steps g.D.Disk.seen (value_of c.args.self.now) (record (value_of c.args.self.now) { requests = c.follow-in-Route.new.requests.items; graph = c.step-reply-in-Route.new.self })
    c.args.at x c.in-Route.e c.step-reply-in-Route.result c.follow-in-Route.result c.requires.sound at wants
    c.step-reply-in-Route.ensures.legal refl refl refl refl refl
    (follow_tells c.args.self.now.requests.items c.args.at x c.next.new.self (ByGraph c.step-reply-in-Route.result) _
    c.route_note-note.result c.follow-in-Route.result c.follow-in-Route.new.requests.items c.requires.inside c.in-Route.ensures.gives
    c.route_note-note.ensures c.follow-in-Route.ensures))

pub returns-in-Stripe : goal.returns-in-Stripe
returns-in-Stripe g c = λ l e.
    let x : Live = c.index_mut.result.now in
    let at = element c.args.self.now.requests.items c.args.at x c.requires.inside c.index_mut.ensures.value in
    let idle = idle_at (value_of c.args.self.now) c.args.at x c.requires.sound.requests at in
    let wants : WantsAt c.args.self.now.shape.align x.request.value.request.client x.request.value.request.pads x.request.value.request.stage (OnStripe c.from.result c.in-Stripe.op) =
    rw c.from.ensures (subst (λ (s : Shape). WantsAt s.align x.request.value.request.client x.request.value.request.pads x.request.value.request.stage (OnStripe c.in-Stripe.stripe c.in-Stripe.op))
    idle.shape_is c.in-Stripe.ensures.wants) in
    let fits : FitsStripe c.args.self.now.shape c.from.result c.in-Stripe.op =
    rw c.from.ensures (subst (λ (s : Shape). FitsStripe s c.in-Stripe.stripe c.in-Stripe.op) idle.shape_is c.in-Stripe.ensures.fits) in
    let below : c.from.result < 8 = stripe_below c.args.self.now.shape c.from.result c.in-Stripe.op fits in
    let inside : c.from.result < length c.args.self.now.stripes.items = omega (arith, below, c.requires.sound.count) in
    let here = stripe_here g.D.Disk.seen (value_of c.args.self.now) c.from.result c.index_mut-in-Stripe.result.now inside c.index_mut-in-Stripe.ensures.value in
    subst (λ (y : Live). StepsRequest g.D.Disk.seen (value_of c.args.self.now) y.number c.follow-in-Stripe.result
    (record (value_of c.args.self.now) {
      requests = c.follow-in-Stripe.new.requests.items;
      stripes = slice_set c.args.self.now.stripes.items c.from.result c.one-reply.new.self;
    }))
    (one_element c.args.self.now.requests.items c.args.at x l at e)
    (stripe_steps g.D.Disk.seen (value_of c.args.self.now)
    (record (value_of c.args.self.now) {
      requests = c.follow-in-Stripe.new.requests.items;
      stripes = slice_set c.args.self.now.stripes.items c.from.result c.one-reply.new.self;
    })
    c.args.at x c.from.result c.in-Stripe.op c.one-reply.result c.index_mut-in-Stripe.result.now c.one-reply.new.self c.follow-in-Stripe.result
    c.requires.sound at wants fits below here refl c.one-reply.ensures.row c.one-reply.ensures.same refl refl refl refl refl
    (follow_tells c.args.self.now.requests.items c.args.at x c.next.new.self (ByStripe c.one-reply.result)
    (stripe_note (stripe_kind c.in-Stripe.op) (note_place c.from.result c.in-Stripe.op) c.one-reply.result)
    c.stripe_note-note.result c.follow-in-Stripe.result c.follow-in-Stripe.new.requests.items c.requires.inside c.in-Stripe.ensures.gives
    (c.stripe_note-note.ensures ∙ ap (λ (k : OpKind). stripe_note k c.stripe_kind-kind.result.1 c.one-reply.result) c.stripe_kind-kind.ensures.kind
    ∙ ap (λ (b : ℕ). stripe_note (stripe_kind c.in-Stripe.op) b c.one-reply.result)
    (c.stripe_kind-kind.ensures.place ∙ ap (λ (z : ℕ). note_place z c.in-Stripe.op) (sym c.from.ensures))) c.follow-in-Stripe.ensures))

pub returns-in-Answer : goal.returns-in-Answer
returns-in-Answer g c = λ l e.
    let x : Live = c.index_mut.result.now in
    let at = element c.args.self.now.requests.items c.args.at x c.requires.inside c.index_mut.ensures.value in
    let idle = idle_at (value_of c.args.self.now) c.args.at x c.requires.sound.requests at in
    let wants : WantsAt c.args.self.now.shape.align x.request.value.request.client x.request.value.request.pads x.request.value.request.stage (Answer c.in-Answer.verdict) =
    subst (λ (s : Shape). WantsAt s.align x.request.value.request.client x.request.value.request.pads x.request.value.request.stage (Answer c.in-Answer.verdict)) idle.shape_is
    c.in-Answer.ensures.wants in
    subst (λ (y : Live). StepsRequest g.D.Disk.seen (value_of c.args.self.now) y.number (Answered c.in-Answer.verdict None) (record (value_of c.args.self.now) { requests = c.remove-live.new.self.items }))
    (one_element c.args.self.now.requests.items c.args.at x l at e)
    (answer_steps g.D.Disk.seen (value_of c.args.self.now) c.args.at x c.in-Answer.verdict c.remove-live.new.self.items c.requires.sound at wants
    (c.remove-live.ensures.items ∙ remove_set c.args.self.now.requests.items c.args.at c.next.new.self))
