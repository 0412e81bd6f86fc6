use Rattle.std.proofs.Common.{◌∙◌, sym}
use Rattle.std.proofs.lemmas.Bool.{eq-eqb, ne_eqb}
use Rattle.qs_outside.proofs.Replays.{number-step}
use Rattle.qs_outside.proofs.crash.last_number.Goals as goal
use Rattle.qs_outside.proofs.crash.last_number.Goals.{then-pair-b, else-pair-b}

pub loop-pair-preserved : goal.loop-pair-preserved
loop-pair-preserved c =
    let more = number-step c.args.rest c.args.picks.now c.loop-pair.pair-index c.args.b (0, 0) c.loop-pair-test.true in
    elim c.if-pair-b.branch [
      | then-pair-b w ↦ w.number-is ∙ sym (rw (eq-eqb _ _ w.if-pair-b.true) at more)
      | else-pair-b w ↦ w.number-is ∙ c.loop-pair.invariant ∙ sym (rw (ne_eqb _ _ w.if-pair-b.false) at more)
    ]
