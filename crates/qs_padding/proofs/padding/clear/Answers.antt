use Rattle.std.proofs.Common.{[], ◌-◌, sym, ◌∙◌, arith}
use Rattle.std.proofs.lemmas.List.Edits.{length-between}
use Rattle.qs_padding.proofs.Merged.{merged_out, cleared_block}
use Rattle.qs_padding.proofs.padding.clear.Goals as goal

pub returns-in_default : goal.returns-in_default
returns-in_default c i inside =
    sym (merged_out c.args.span.now [] _ _
    (λ _ below. c.in_default.ensures (omega (arith, below, c.hi-hi.ensures.hi, c.hi-hi.type_inv))))

pub returns-then-first-last : goal.returns-then-first-last
returns-then-first-last c i inside =
    rw (c.fill.ensures.after (λ y is. is)) (cleared_block c.args.span.now c.args.block.now c.lo-lo.result c.hi-hi.result _ c.in-Some.start
    c.max-first.result c.min-last.result _ i c.lo-lo.ensures.lo c.hi-hi.ensures.hi c.hi-hi.type_inv c.in-Some.ensures.1 c.hi-hi.ensures.ordered c.max-first.ensures
    (rw c.saturating_add.ensures at c.min-last.ensures) c.if-first-last.true
    (length-between c.args.block.now (c.max-first.result - c.in-Some.start) (c.min-last.result - c.in-Some.start)
    (omega (arith, c.min-last.ensures, c.saturating_add.ensures))
    ∙ omega (arith, c.max-first.ensures, c.if-first-last.true)) inside)
