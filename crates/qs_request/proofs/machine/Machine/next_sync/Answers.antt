use Rattle.std.proofs.Common.{Bool, cond, sym, ap, ◌∙◌}
use Rattle.qs_bytes.specs.declared.ask.Verdict.TheVariants.{Got, Fine}
use Rattle.qs_model.specs.Requests.{ToEnd}
use Rattle.qs_request.specs.Inside.{client_of}
use Rattle.qs_request.proofs.NextSync.{sync_here, sync_over, sync_past}
use Rattle.qs_request.proofs.machine.Machine.next_sync.Goals as goal

pub returns-then-syncs-clause-step : goal.returns-then-syncs-clause-step
returns-then-syncs-clause-step c =
    sym (c.loop-s.invariant ∙ sync_here c.args.self.now.shape.align (client_of c.args.self.now) c.loop-s.s c.loop-s-test.true (sym c.syncs.ensures ∙ c.if-syncs.true))

pub loop-s-preserved : goal.loop-s-preserved
loop-s-preserved c =
    c.loop-s.invariant ∙ sync_past c.args.self.now.shape.align (client_of c.args.self.now) c.loop-s.s c.loop-s-test.true (sym c.syncs.ensures ∙ c.if-syncs.false)

pub returns-clause-step : goal.returns-clause-step
returns-clause-step c =
    ap (λ (b : Bool). ToEnd (cond b (Got c.args.self.now.body) Fine)) c.requires.syncing.unread
    ∙ sym (c.loop-s.invariant ∙ sync_over c.args.self.now.shape.align (client_of c.args.self.now) c.loop-s.s c.loop-s-test.false)
