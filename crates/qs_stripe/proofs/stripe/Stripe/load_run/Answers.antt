use Rattle.std.proofs.Common.{◌≡◌, ◌*◌, sym, ap, subst, ◌∙◌}
use Rattle.qs_part.specs.declared.runs.RunOp.TheVariants.{Load}
use Rattle.qs_part.specs.declared.runs.RunReply.TheVariants.{Filled, Fault}
use Rattle.qs_stripe.specs.Runs.{run_answers}
use Rattle.qs_stripe.specs.Table.{StripeValue, value_of}
use Rattle.qs_stripe.proofs.RunChains.{loads-fault, loads-run}
use Rattle.qs_stripe.proofs.stripe.Stripe.load_run.Goals as goal

pub returns-in-Err-clause-row : goal.returns-in-Err-clause-row
returns-in-Err-clause-row g c =
    let d = g.D.Disk.seen c.read_run.new.disk in
    let old : StripeValue = value_of g.D.Disk.seen (record { disk = c.self.inside.disk; places = c.self.inside.holds; clean = c.self.inside.clean }) in
    let p = c.place_of-run.ensures in
    let size : c.place_of-run.result.size ≡ c.args.n * old.disk.align = p.size ∙ ap (λ s. c.args.n * (g.D.Disk.seen s.disk).align) (sym c.self.view_is) in
    let loads = rw (p.b, p.n, p.at, size) at c.in-Err.ensures.loads in
    let over = rw (p.at, size) at c.in-Err.ensures.over in
    subst (λ s. run_answers (value_of g.D.Disk.seen s) (Load c.args.b c.args.k c.args.n c.args.at c.args.buf) (Fault c.in-Err.done c.in-Err.back) (record old { disk = d })) c.self.view_is
    (over, loads.before, loads-fault old.disk.align c.args.b c.args.k c.args.at c.args.n c.in-Err.done c.args.buf c.in-Err.back old d loads)

pub returns-clause-row : goal.returns-clause-row
returns-clause-row g c =
    let d = g.D.Disk.seen c.read_run.new.disk in
    let old : StripeValue = value_of g.D.Disk.seen (record { disk = c.self.inside.disk; places = c.self.inside.holds; clean = c.self.inside.clean }) in
    let p = c.place_of-run.ensures in
    let size : c.place_of-run.result.size ≡ c.args.n * old.disk.align = p.size ∙ ap (λ s. c.args.n * (g.D.Disk.seen s.disk).align) (sym c.self.view_is) in
    let loads = rw (p.b, p.n, p.at, size) at c.in-Ok.ensures.loads in
    let over = rw (p.at, size) at c.in-Ok.ensures.over in
    subst (λ s. run_answers (value_of g.D.Disk.seen s) (Load c.args.b c.args.k c.args.n c.args.at c.args.buf) (Filled c.in-Ok.got) (record old { disk = d })) c.self.view_is
    (over, loads-run old.disk.align c.args.b c.args.k c.args.at c.args.n c.args.buf c.in-Ok.got old d loads)
