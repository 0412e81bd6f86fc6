use Rattle.std.proofs.Common.{sym, arith}
use Rattle.qs_padding.proofs.Merged.{merged_out, merged_block}
use Rattle.qs_padding.proofs.padding.merge.Goals as goal

pub returns-in_default : goal.returns-in_default
returns-in_default c i inside =
    sym (merged_out c.args.span.now c.args.bytes.now _ _
    (λ _ below. c.in_default.ensures (omega (arith, below, c.hi-hi.ensures.hi, c.hi-hi.type_inv))))

pub returns-then-from-to : goal.returns-then-from-to
returns-then-from-to c i inside =
    merged_block c.args.span.now c.args.block.now c.args.bytes.now c.copy_from_slice.new.self c.lo-lo.result c.hi-hi.result _ c.in-Some.start
    c.max-from.result c.min-to.result i c.lo-lo.ensures.lo c.hi-hi.ensures.hi c.hi-hi.type_inv c.in-Some.ensures.1 c.requires c.max-from.ensures
    (rw c.saturating_add.ensures at c.min-to.ensures) c.if-from-to.true c.copy_from_slice.ensures.after inside
