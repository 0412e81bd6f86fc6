use Rattle.std.proofs.Common.{◌+◌, ◌<◌, ap, arith, sym, ◌∙◌}
use Rattle.qs_part.specs.declared.event.OpKind.TheVariants.{Load as LoadKind}
use Rattle.qs_part.specs.declared.event.StripeNote.TheVariants as told
use Rattle.qs_stripe.specs.declared.geometry.Geometry.{Geometry}
use Rattle.qs_request.proofs.RunChains.{note_for}
use Rattle.qs_request.proofs.RunMachine.{loading-last, loads-answered, loads-refused}
use Rattle.qs_request.proofs.machine.Machine.load_run.Goals as goal

pub after_load-next-requires-clause-loading : goal.after_load-next-requires-clause-loading
after_load-next-requires-clause-loading g c =
    rw c.from.ensures (loading-last c.args.self.now c.args.run c.requires.free c.requires.whole c.requires.stage)

pub returns-in-Fault-clause-ran : goal.returns-in-Fault-clause-ran
returns-in-Fault-clause-ran g c =
    let place : c.args.run.k < 256 = omega arith in
    loads-refused c.args.self.now c.args.run c.requires.free c.requires.whole c.requires.stage c.lend_body-buf.new.self c.lend_body-buf.ensures.same place _ _
    (ap (λ (x : Geometry). x.align) c.requires.stripe) c.lend_body-buf.result c.lend_body-buf.ensures.body c.in-Fault.done c.in-Fault.back _ c.in-Fault.ensures.row
    (c.note_of-in-Fault.ensures ∙ ap (λ i. note_for LoadKind (c.args.run.b + i) told.Fault) c.from-in-Fault.ensures)

pub returns-clause-ran : goal.returns-clause-ran
returns-clause-ran g c =
    let place : c.args.run.k < 256 = omega arith in
    loads-answered c.args.self.now c.args.run c.requires.free c.requires.whole c.requires.stage c.lend_body-buf.new.self c.lend_body-buf.ensures.same place _ _
    (ap (λ (x : Geometry). x.align) c.requires.stripe) c.lend_body-buf.result c.lend_body-buf.ensures.body c.in-Filled.got _ _ c.in-Filled.ensures.row
    (rw (sym c.from.ensures) c.after_load-next.ensures.step)
    (c.note_of.ensures ∙ ap (λ i. note_for LoadKind (c.args.run.b + i) told.Filled) c.from.ensures)
