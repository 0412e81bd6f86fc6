use Rattle.std.proofs.Common.{◌≡◌, ◌+◌, ◌-◌, length, sym, ap, ◌∙◌, arith}
use Rattle.qs_outside.proofs.BlockRuns.{piece-length}
use Rattle.qs_stripe.proofs.RunChains.{over-refilled}
use Rattle.qs_stripe.proofs.stripe.runs.read_run.Goals as goal

pub returns-in-Ok-clause-over : goal.returns-in-Ok-clause-over
returns-in-Ok-clause-over g c =
    let k : c.args.run.size ≡ c.args.run.at + c.args.run.size - c.args.run.at = omega arith in
    let same = c.deref_mut.ensures.value ∙ c.into_vec-bytes.ensures in
    let whole = piece-length c.args.run.at _ c.args.run.size c.deref_mut.result.now c.load_run.new.into c.load_run.auto.into (sym k) (omega (arith, c.requires.inside, ap length same)) in
    over-refilled c.args.run.at c.args.run.size _ _ c.args.buf c.deref_mut.result.now c.load_run.new.into _ c.of.result same
    (omega (arith, c.requires.inside)) (whole ∙ k) k (sym c.deref_mut.ensures.len) c.of.ensures

pub returns-in-Err-clause-over : goal.returns-in-Err-clause-over
returns-in-Err-clause-over g c =
    let k : c.args.run.size ≡ c.args.run.at + c.args.run.size - c.args.run.at = omega arith in
    let same = c.deref_mut.ensures.value ∙ c.into_vec-bytes.ensures in
    let whole = piece-length c.args.run.at _ c.args.run.size c.deref_mut.result.now c.load_run.new.into c.load_run.auto.into (sym k) (omega (arith, c.requires.inside, ap length same)) in
    over-refilled c.args.run.at c.args.run.size _ _ c.args.buf c.deref_mut.result.now c.load_run.new.into _ c.of-in-Err.result same
    (omega (arith, c.requires.inside)) (whole ∙ k) k (sym c.deref_mut.ensures.len) c.of-in-Err.ensures
