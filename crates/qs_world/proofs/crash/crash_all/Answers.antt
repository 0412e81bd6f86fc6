use Rattle.std.proofs.Common.{sym, subst, arith}
use Rattle.qs_outside.specs.Crashes.{Crashes}
use Rattle.qs_stripe.specs.Table.{StripeState}
use Rattle.qs_world.proofs.Crashes.{all_so_far, none_so_far, one_more}
use Rattle.qs_world.proofs.crash.crash_all.Goals as goal

pub loop-j-init : goal.loop-j-init
loop-j-init g c = none_so_far g.D.Disk.seen c.args.choice.now c.args.stripes.now

pub loop-j-preserved : goal.loop-j-preserved
loop-j-preserved g c =
    one_more g.D.Disk.seen c.args.choice.now c.args.stripes.now c.loop-j.stripes c.loop-j.j c.index-stripes-j.result c.crash.new.self
    (omega (arith, c.loop-j-test.true, c.loop-j.auto.stripes)) c.index-stripes-j.is
    (subst (λ (s : StripeState _). Crashes c.args.choice.now (g.D.Disk.seen s.disk) (g.D.Disk.seen c.crash.new.self.disk)) (sym c.index-stripes-j.is) c.crash.ensures.disk)
    c.crash.ensures.opened c.loop-j.invariant

pub returns : goal.returns
returns g c = all_so_far g.D.Disk.seen c.args.choice.now c.args.stripes.now c.loop-j.stripes c.loop-j.j c.loop-j-test.false c.loop-j.invariant
