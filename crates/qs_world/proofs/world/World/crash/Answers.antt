use Rattle.std.proofs.Common.{◌≡◌, List, refl, sym, subst, ◌∙◌}
use Rattle.std.specs.Vec.{with_items}
use Rattle.std.proofs.lemmas.List.{with_items_is}
use Rattle.qs_stripe.specs.Table.{StripeState}
use Rattle.qs_world.specs.Cores.{value_of}
use Rattle.qs_world.specs.Crashing.{Crashed, StripesCrash}
use Rattle.qs_world.specs.Values.{WorldValue}
use Rattle.qs_world.proofs.Crashes.{crashed_all}
use Rattle.qs_world.proofs.world.World.crash.Goals as goal

pub invariant_of-self : goal.invariant_of-self
invariant_of-self g c =
    let items : (with_items c.self.inside.core.stripes c.crash_all.new.stripes).items ≡ c.crash_all.new.stripes =
    with_items_is c.self.inside.core.stripes c.crash_all.new.stripes (c.crash_all.ensures.count ∙ c.deref_mut.ensures.len) in
    let crash : StripesCrash g.D.Disk.seen c.args.choice.now c.self.inside.core.stripes.items (with_items c.self.inside.core.stripes c.crash_all.new.stripes).items =
    subst (λ (ss : List (StripeState _)). StripesCrash g.D.Disk.seen c.args.choice.now c.self.inside.core.stripes.items ss) (sym items)
    (subst (λ (ss : List (StripeState _)). StripesCrash g.D.Disk.seen c.args.choice.now ss c.crash_all.new.stripes) c.deref_mut.ensures.value c.crash_all.ensures) in
    let all = crashed_all g.D.Disk.seen (value_of c.self.inside.core) _ c.args.choice.now c.self.invariant.0 crash refl refl
    c.clear.ensures.items c.clear-2.ensures.items c.reset.ensures c.reset-2.ensures in
    (all.1, c.self.invariant.1, c.self.invariant.2, c.self.invariant.3)

pub returns : goal.returns
returns g c =
    let items : (with_items c.self.inside.core.stripes c.crash_all.new.stripes).items ≡ c.crash_all.new.stripes =
    with_items_is c.self.inside.core.stripes c.crash_all.new.stripes (c.crash_all.ensures.count ∙ c.deref_mut.ensures.len) in
    let crash : StripesCrash g.D.Disk.seen c.args.choice.now c.self.inside.core.stripes.items (with_items c.self.inside.core.stripes c.crash_all.new.stripes).items =
    subst (λ (ss : List (StripeState _)). StripesCrash g.D.Disk.seen c.args.choice.now c.self.inside.core.stripes.items ss) (sym items)
    (subst (λ (ss : List (StripeState _)). StripesCrash g.D.Disk.seen c.args.choice.now ss c.crash_all.new.stripes) c.deref_mut.ensures.value c.crash_all.ensures) in
    let new : WorldValue _ = record {
      shape = c.self.inside.core.shape;
      next = c.self.inside.core.next;
      requests = c.clear.new.self.items;
      sessions = c.clear-2.new.self.items;
      graph = c.reset.new.self;
      tracker = c.reset-2.new.self;
      stripes = (with_items c.self.inside.core.stripes c.crash_all.new.stripes).items;
    } in
    let all = crashed_all g.D.Disk.seen (value_of c.self.inside.core) new c.args.choice.now c.self.invariant.0 crash refl refl
    c.clear.ensures.items c.clear-2.ensures.items c.reset.ensures c.reset-2.ensures in
    subst (λ (w : WorldValue _). Crashed g.D.Disk.seen w c.args.choice.now new) c.self.view_is all.0
