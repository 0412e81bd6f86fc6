use Rattle.std.proofs.Common.{sym, ◌∙◌}
use Rattle.qs_request.proofs.Made.{brought, unbrought}
use Rattle.qs_request.proofs.Merges.{is_merged}
use Rattle.qs_request.proofs.machine.Machine.content.Goals as goal

pub returns-then-brings_bytes-clause-merged : goal.returns-then-brings_bytes-clause-merged
returns-then-brings_bytes-clause-merged c =
    is_merged c.args.self.now c.args.b c.requires.shape c.requires.storing c.span-span.result c.as_slice.result.now c.args.work c.merged.result c.kept-pad.result.now c.side_of-side.result
    c.span-span.ensures (c.as_slice.ensures ∙ brought c.args.self.now.ask.kind c.args.self.now.body (sym c.brings_bytes.ensures ∙ c.if-brings_bytes.true))
    c.requires.whole c.side_of-side.ensures c.kept-pad.ensures c.merged.ensures.merged

pub returns-else-brings_bytes-clause-merged : goal.returns-else-brings_bytes-clause-merged
returns-else-brings_bytes-clause-merged c =
    is_merged c.args.self.now c.args.b c.requires.shape c.requires.storing c.span-span.result _ c.args.work c.cleared.result c.kept-pad.result.now c.side_of-side.result
    c.span-span.ensures (sym (unbrought c.args.self.now.ask.kind c.args.self.now.body (sym c.brings_bytes.ensures ∙ c.if-brings_bytes.false)))
    c.requires.whole c.side_of-side.ensures c.kept-pad.ensures c.cleared.ensures.cleared
