use Rattle.std.proofs.Common.{List, refl, subst}
use Rattle.std.specs.declared.snapshot.Snapshot.{Snapshot}
use Rattle.qs_stripe.specs.Table.{StripeState}
use Rattle.qs_turn.specs.Names.{Name}
use Rattle.qs_turn_rows.specs.Rows.{CalledAt}
use Rattle.qs_shared.specs.Parts.{steps_of_stripe}
use Rattle.qs_shared.proofs.Wholes.{after_stripe}
use Rattle.qs_shared.proofs.shared.Shared+D.call_stripe.Goals as goal

pub returns-clause-of : goal.returns-clause-of
returns-clause-of g c =
    (after_stripe g.D.Disk.seen c.args.self.now c.args.pass.now _ c.deref.result.now c.args.stripe c.args.request c.args.call c.call_at.result c.requires.of refl c.deref.ensures.value c.call_at.ensures.turns c.call_at.ensures.called).0

pub returns-clause-calls : goal.returns-clause-calls
returns-clause-calls g c = record {
  called = subst (λ (l : List (Name (Snapshot (StripeState g.row.D.Denot)))). CalledAt (steps_of_stripe g.D.Disk.seen) l c.args.stripe c.args.pass.now.stripes.items c.args.request c.args.call c.call_at.result c.call_at.new.passes.items) c.deref.ensures.value c.call_at.ensures.called;
  rest = refl;
}

pub returns-clause-later : goal.returns-clause-later
returns-clause-later g c =
    (after_stripe g.D.Disk.seen c.args.self.now c.args.pass.now _ c.deref.result.now c.args.stripe c.args.request c.args.call c.call_at.result c.requires.of refl c.deref.ensures.value c.call_at.ensures.turns c.call_at.ensures.called).1
