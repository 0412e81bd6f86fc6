use Rattle.std.proofs.Common.{◌+◌, ◌*◌, ◌-◌, ◌<◌, List, ℕ, ap, arith, subst, sym, ◌∙◌}
use Rattle.qs_part.specs.declared.event.OpKind.TheVariants.{Store as StoreKind}
use Rattle.qs_part.specs.declared.event.StripeNote.TheVariants as told
use Rattle.qs_stripe.specs.declared.geometry.Geometry.{Geometry}
use Rattle.qs_request.specs.RunSteps.{AreZeros}
use Rattle.qs_request.proofs.RunChains.{note_for}
use Rattle.qs_request.proofs.RunMachine.{storing-at}
use Rattle.qs_request.proofs.RunZeros.{zero-held-free, zeros-answered, zeros-held-up, zeros-refused}
use Rattle.qs_request.proofs.machine.Machine.zero_run.Goals as goal

pub stored-requires-clause-storing : goal.stored-requires-clause-storing
stored-requires-clause-storing g c =
    rw c.from.ensures (storing-at c.args.self.now c.args.run c.requires.free c.requires.whole c.requires.stage (c.args.run.n - 1) (omega (arith, c.requires.whole.some)))

pub returns-clause-ran : goal.returns-clause-ran
returns-clause-ran g c =
    let place : c.args.run.k < 256 = omega arith in
    zeros-answered c.args.self.now c.args.run c.requires.free c.requires.whole c.requires.stage c.requires.brings c.replace-buf.result
    (subst (λ (xs : List ℕ). AreZeros (c.args.run.n * c.args.self.now.shape.align) xs) (sym c.replace-buf.ensures.value) c.requires.zeros) place _ _ (ap (λ (x : Geometry). x.align) c.requires.stripe) c.in-Done.back _ _ c.in-Done.ensures.row
    (rw (sym c.from.ensures) c.stored.ensures.step)
    (c.note_of.ensures ∙ ap (λ i. note_for StoreKind (c.args.run.b + i) told.Done) c.from.ensures)

pub returns-in-Fault-clause-ran : goal.returns-in-Fault-clause-ran
returns-in-Fault-clause-ran g c =
    let place : c.args.run.k < 256 = omega arith in
    zeros-refused c.args.self.now c.args.run c.requires.free c.requires.whole c.requires.stage c.requires.brings c.replace-buf.result
    (subst (λ (xs : List ℕ). AreZeros (c.args.run.n * c.args.self.now.shape.align) xs) (sym c.replace-buf.ensures.value) c.requires.zeros)
    place _ _ (ap (λ (x : Geometry). x.align) c.requires.stripe) c.in-Fault.back c.in-Fault.done _ _ c.in-Fault.ensures.row
    (rw (sym c.from-in-Fault.ensures) c.store_failed.ensures.step)
    (c.note_of-in-Fault.ensures ∙ ap (λ i. note_for StoreKind (c.args.run.b + i) told.Fault) c.from-in-Fault.ensures)

pub returns-in-HeldBy-clause-ran : goal.returns-in-HeldBy-clause-ran
returns-in-HeldBy-clause-ran g c =
    let place : c.args.run.k < 256 = omega arith in
    rw c.from-in-HeldBy.ensures
    (zeros-held-up c.args.self.now c.args.run c.requires.free c.requires.whole c.requires.stage c.requires.brings c.replace-buf.result
    (subst (λ (xs : List ℕ). AreZeros (c.args.run.n * c.args.self.now.shape.align) xs) (sym c.replace-buf.ensures.value) c.requires.zeros)
    place _ _ (ap (λ (x : Geometry). x.align) c.requires.stripe) c.in-HeldBy.back c.in-HeldBy.done c.in-HeldBy.j _ c.in-HeldBy.ensures.row
    (c.note_of-in-HeldBy.ensures ∙ ap (λ i. note_for StoreKind (c.args.run.b + i) (told.HeldBy c.in-HeldBy.j)) c.from-in-HeldBy.ensures))

pub returns-in-HeldBy-clause-free : goal.returns-in-HeldBy-clause-free
returns-in-HeldBy-clause-free g c =
    rw c.from-in-HeldBy.ensures
    (zero-held-free c.args.self.now c.args.run c.requires.free c.requires.whole c.requires.stage c.requires.brings c.in-HeldBy.done c.in-HeldBy.ensures.row.1)
