use Rattle.std.proofs.Common.{sym, ap, ◌∙◌, false, slice_index_or}
use Rattle.qs_host.proofs.SyncHistories.{need_call, need_fails, need_nothing}
use Rattle.qs_host.proofs.sync_log.SyncLog.need.Goals as goal

pub returns-then-self : goal.returns-then-self
returns-then-self c = λ history in_turn idle same.
    need_fails history c.args.k (sym (ap (λ log. log.failed) same) ∙ c.if-self.true)

pub returns-then-self-k : goal.returns-then-self-k
returns-then-self-k c = λ history in_turn idle same.
    need_call history c.args.k in_turn c.requires (sym (ap (λ log. log.failed) same) ∙ c.if-self.false)
    (sym (ap (λ log. slice_index_or log.unsynced c.args.k false) same) ∙ c.if-self-k.true)

pub returns-else-self-k : goal.returns-else-self-k
returns-else-self-k c = λ history in_turn idle same.
    need_nothing history c.args.k in_turn idle c.requires (sym (ap (λ log. log.failed) same) ∙ c.if-self.false)
    (sym (ap (λ log. slice_index_or log.unsynced c.args.k false) same) ∙ c.if-self-k.false)
