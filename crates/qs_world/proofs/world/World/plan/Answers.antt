use Rattle.std.proofs.Common.{◌<◌, ℕ, subst}
use Rattle.std.specs.List.{slice_set}
use Rattle.qs_world.specs.Cores.{value_of}
use Rattle.qs_world.specs.Openings.{Planned}
use Rattle.qs_world.specs.Values.{WorldValue}
use Rattle.qs_world.proofs.Plans.{planned_all}
use Rattle.qs_world.proofs.world.World.plan.Goals as goal

pub invariant_of-self : goal.invariant_of-self
invariant_of-self g c =
    let below : c.from.result < 8 = rw c.from.ensures c.requires in
    let all = planned_all g.D.Disk.seen (value_of c.self.inside.core) c.from.result c.index_mut.result.now c.plan.new.self c.args.fail c.self.invariant.0 below
    c.index_mut.ensures.value c.plan.ensures.holds c.plan.ensures.clean c.plan.ensures.disk in
    (all.1, c.self.invariant.1, c.self.invariant.2, c.self.invariant.3)

pub returns : goal.returns
returns g c =
    let below : c.from.result < 8 = rw c.from.ensures c.requires in
    let all = planned_all g.D.Disk.seen (value_of c.self.inside.core) c.from.result c.index_mut.result.now c.plan.new.self c.args.fail c.self.invariant.0 below
    c.index_mut.ensures.value c.plan.ensures.holds c.plan.ensures.clean c.plan.ensures.disk in
    subst (λ (w : WorldValue _). Planned g.D.Disk.seen w c.args.stripe c.args.fail
    (record (value_of c.self.inside.core) { stripes = slice_set c.self.inside.core.stripes.items c.from.result c.plan.new.self })) c.self.view_is
    (subst (λ (z : ℕ). Planned g.D.Disk.seen (value_of c.self.inside.core) z c.args.fail
    (record (value_of c.self.inside.core) { stripes = slice_set c.self.inside.core.stripes.items c.from.result c.plan.new.self })) c.from.ensures all.0)
