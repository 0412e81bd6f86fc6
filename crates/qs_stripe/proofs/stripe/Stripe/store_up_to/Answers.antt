use Rattle.qs_stripe.specs.Table.{value_of}
use Rattle.qs_stripe.proofs.RunChains.{stores-wait}
use Rattle.qs_stripe.proofs.stripe.Stripe.store_up_to.Goals as goal

pub returns-clause-row : goal.returns-clause-row
returns-clause-row g c =
    let held = c.requires.held in
    let row = c.in-Ok.ensures.row in (
      row.0,
      held.within,
      stores-wait _ c.args.b c.args.k c.args.at c.args.buf c.args.free c.args.j (value_of g.D.Disk.seen c.args.self.now) (value_of g.D.Disk.seen c.store_free.new.self)
          held.other held.here row.1,
    )
