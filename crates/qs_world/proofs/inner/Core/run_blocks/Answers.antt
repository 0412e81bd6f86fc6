use Rattle.std.proofs.Common.{◌≡◌, ℕ, ◌<◌, ◌∙◌, length, refl, sym, ap, subst, arith}
use Rattle.std.specs.List.{slice_set}
use Rattle.qs_bytes.specs.Geometry.{stripe_of}
use Rattle.qs_part.specs.declared.event.Outcome.TheVariants.{Moved}
use Rattle.qs_request_state.specs.declared.shape.Shape.{Shape}
use Rattle.qs_request.specs.RunSteps.{RanOut, geometry_for}
use Rattle.qs_request.specs.Value.{RequestValue}
use Rattle.qs_stripe.specs.declared.geometry.Geometry.{Geometry}
use Rattle.qs_stripe.specs.Table.{geometry, value_of as stripe_value}
use Rattle.qs_world.specs.declared.live.Live.{Live}
use Rattle.qs_world.specs.Cores.{value_of}
use Rattle.qs_world.specs.Running.{RepeatsRequest}
use Rattle.qs_world.proofs.Answering.{idle_at}
use Rattle.qs_world.proofs.Indexing.{one_element, stripe_here}
use Rattle.qs_world.proofs.Keyed.{element}
use Rattle.qs_world.proofs.RunChain.{run_repeats}
use Rattle.qs_world.proofs.ZeroBytes.{for_run}
use Rattle.qs_world.proofs.inner.Core.run_blocks.Goals as goal

pub run-note-requires-clause-next : goal.run-note-requires-clause-next
run-note-requires-clause-next g c =
    let x : Live = c.index_mut.result.now in
    let at = element c.args.self.now.requests.items c.args.at x c.requires.inside c.index_mut.ensures.value in
    let idle = idle_at (value_of c.args.self.now) c.args.at x c.requires.sound.requests at in
    rw (c.deref_mut.ensures.value, idle.shape_is) (c.requires.next x at)

pub run-note-requires-clause-zeros : goal.run-note-requires-clause-zeros
run-note-requires-clause-zeros g c =
    let x : Live = c.index_mut.result.now in
    let at = element c.args.self.now.requests.items c.args.at x c.requires.inside c.index_mut.ensures.value in
    let idle = idle_at (value_of c.args.self.now) c.args.at x c.requires.sound.requests at in
    rw (c.deref_mut.ensures.value, idle.shape_is)
    (for_run c.args.self.now.shape.align c.args.run.b c.args.run.n c.args.zeros.now c.requires.sound.shape.align (c.requires.next x at).whole_run.group c.requires.zeros)

pub run-note-requires-clause-stripe : goal.run-note-requires-clause-stripe
run-note-requires-clause-stripe g c =
    let x : Live = c.index_mut.result.now in
    let at = element c.args.self.now.requests.items c.args.at x c.requires.inside c.index_mut.ensures.value in
    let idle = idle_at (value_of c.args.self.now) c.args.at x c.requires.sound.requests at in
    let z : c.from.result ≡ stripe_of c.args.run.b = c.from.ensures ∙ c.stripe_of.ensures in
    let below : c.from.result < 8 = omega (arith, z) in
    let inside : c.from.result < length c.args.self.now.stripes.items = omega (arith, below, c.requires.sound.count) in
    let here = stripe_here g.D.Disk.seen (value_of c.args.self.now) c.from.result c.index_mut-stripe.result.now inside c.index_mut-stripe.ensures.value in
    sym (ap geometry here) ∙ c.requires.sound.stripes c.from.result below
    ∙ ap (λ (i : ℕ). record { stripe = i; align = c.args.self.now.shape.align; size = c.args.self.now.shape.size }) z
    ∙ ap (λ (s : Shape). geometry_for s c.args.run.b) (sym (ap (λ (v : RequestValue). v.shape) c.deref_mut.ensures.value ∙ idle.shape_is))

pub returns-clause-runs : goal.returns-clause-runs
returns-clause-runs g c = λ l e.
    let x : Live = c.index_mut.result.now in
    let at = element c.args.self.now.requests.items c.args.at x c.requires.inside c.index_mut.ensures.value in
    let idle = idle_at (value_of c.args.self.now) c.args.at x c.requires.sound.requests at in
    let z : c.from.result ≡ stripe_of c.args.run.b = c.from.ensures ∙ c.stripe_of.ensures in
    let below : c.from.result < 8 = omega (arith, z) in
    let inside : c.from.result < length c.args.self.now.stripes.items = omega (arith, below, c.requires.sound.count) in
    let there = element c.args.self.now.stripes.items c.from.result c.index_mut-stripe.result.now inside c.index_mut-stripe.ensures.value in
    let l' : Live = record x { request = record x.request { value = c.run-note.new.self } } in
    let ran : RanOut c.args.self.now.shape c.from.result c.args.run.n c.run-note.result
    (record { request = x.request.value.request; stripe = stripe_value g.D.Disk.seen c.index_mut-stripe.result.now })
    (record { request = c.run-note.new.self.request; stripe = stripe_value g.D.Disk.seen c.run-note.new.stripe }) =
    rw (z, sym idle.shape_is, sym c.deref_mut.ensures.value) c.run-note.ensures.ran in
    let same : l' ≡ record x { request = record x.request { value = record x.request.value { request = c.run-note.new.self.request } } } =
    ap (λ (v : RequestValue). record x { request = record x.request { value = v } })
    (c.run-note.ensures.rest ∙ ap (λ (v : RequestValue). record v { request = c.run-note.new.self.request }) c.deref_mut.ensures.value) in
    subst (λ (y : Live). RepeatsRequest g.D.Disk.seen (value_of c.args.self.now) y.number (Moved c.run-note.result)
    (record (value_of c.args.self.now) {
      requests = slice_set c.args.self.now.requests.items c.args.at l';
      stripes = slice_set c.args.self.now.stripes.items c.from.result c.run-note.new.stripe;
    }))
    (one_element c.args.self.now.requests.items c.args.at x l at e)
    (run_repeats g.D.Disk.seen (value_of c.args.self.now) _ c.args.at c.from.result c.args.run.n x l' c.index_mut-stripe.result.now c.run-note.new.stripe c.run-note.result
    c.requires.sound at there below ran same refl)
