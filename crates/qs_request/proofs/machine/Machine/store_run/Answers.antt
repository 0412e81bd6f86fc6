use Rattle.std.proofs.Common.{◌+◌, ◌-◌, ◌<◌, ap, arith, sym, ◌∙◌}
use Rattle.qs_part.specs.declared.event.OpKind.TheVariants.{Store as StoreKind}
use Rattle.qs_part.specs.declared.event.StripeNote.TheVariants as told
use Rattle.qs_stripe.specs.declared.geometry.Geometry.{Geometry}
use Rattle.qs_request.proofs.RunChains.{note_for}
use Rattle.qs_request.proofs.RunMachine.{held-free, stores-answered, stores-held-up, stores-refused, storing-again}
use Rattle.qs_request.proofs.machine.Machine.store_run.Goals as goal

pub stored-requires-clause-storing : goal.stored-requires-clause-storing
stored-requires-clause-storing g c =
    let row = c.in-Done.ensures.row in
    rw c.from.ensures
    (storing-again c.args.self.now c.args.run c.requires.free c.requires.whole c.requires.stage c.requires.brings c.lend_body-buf.new.self c.lend_body-buf.ensures.same
    c.lend_body-buf.result c.in-Done.back c.lend_body-buf.ensures.body row.0 (c.args.run.n - 1) (omega (arith, c.requires.whole.some)))

pub returns-in-Fault-clause-ran : goal.returns-in-Fault-clause-ran
returns-in-Fault-clause-ran g c =
    let place : c.args.run.k < 256 = omega arith in
    let row = c.in-Fault.ensures.row in
    stores-refused c.args.self.now c.args.run c.requires.free c.requires.whole c.requires.stage c.requires.brings c.lend_body-buf.new.self c.lend_body-buf.ensures.same
    c.lend_body-buf.result c.in-Fault.back c.lend_body-buf.ensures.body row.0 place _ _ (ap (λ (x : Geometry). x.align) c.requires.stripe) c.in-Fault.done _ _ row
    (rw (sym c.from-in-Fault.ensures) c.store_failed.ensures.step)
    (c.note_of-in-Fault.ensures ∙ ap (λ i. note_for StoreKind (c.args.run.b + i) told.Fault) c.from-in-Fault.ensures)

pub returns-in-HeldBy-clause-ran : goal.returns-in-HeldBy-clause-ran
returns-in-HeldBy-clause-ran g c =
    let place : c.args.run.k < 256 = omega arith in
    let row = c.in-HeldBy.ensures.row in
    rw c.from-in-HeldBy.ensures
    (stores-held-up c.args.self.now c.args.run c.requires.free c.requires.whole c.requires.stage c.requires.brings c.lend_body-buf.new.self c.lend_body-buf.ensures.same
    c.lend_body-buf.result c.in-HeldBy.back c.lend_body-buf.ensures.body row.0 place _ _ (ap (λ (x : Geometry). x.align) c.requires.stripe) c.in-HeldBy.done c.in-HeldBy.j _ row
    (c.note_of-in-HeldBy.ensures ∙ ap (λ i. note_for StoreKind (c.args.run.b + i) (told.HeldBy c.in-HeldBy.j)) c.from-in-HeldBy.ensures))

pub returns-in-HeldBy-clause-free : goal.returns-in-HeldBy-clause-free
returns-in-HeldBy-clause-free g c =
    let row = c.in-HeldBy.ensures.row in
    rw c.from-in-HeldBy.ensures
    (held-free c.args.self.now c.args.run c.requires.free c.requires.whole c.requires.stage c.requires.brings c.lend_body-buf.new.self c.lend_body-buf.ensures.same
    c.lend_body-buf.result c.in-HeldBy.back c.lend_body-buf.ensures.body row.0 c.in-HeldBy.done row.1)

pub returns-clause-ran : goal.returns-clause-ran
returns-clause-ran g c =
    let place : c.args.run.k < 256 = omega arith in
    let row = c.in-Done.ensures.row in
    stores-answered c.args.self.now c.args.run c.requires.free c.requires.whole c.requires.stage c.requires.brings c.lend_body-buf.new.self c.lend_body-buf.ensures.same
    c.lend_body-buf.result c.in-Done.back c.lend_body-buf.ensures.body row.0 place _ _ (ap (λ (x : Geometry). x.align) c.requires.stripe) _ _ row
    (rw (sym c.from.ensures) c.stored.ensures.step)
    (c.note_of.ensures ∙ ap (λ i. note_for StoreKind (c.args.run.b + i) told.Done) c.from.ensures)
