use Rattle.std.proofs.Common.{sym, ap, ◌∙◌}
use Rattle.serde_json.specs.View.{view}
use Rattle.qs_qmp_arguments.specs.Limiting.{whole_or}
use Rattle.qs_qmp_arguments.proofs.Limits.{limits_given}
use Rattle.qs_qmp_arguments.proofs.limiting.limits_in.Goals as goal

pub returns : goal.returns
returns c =
    limits_given (view c.args.value.now) _ _ _ _ _ _ _ (sym c.limit_in.ensures ∙ c.in_ok-bps_total.was) (sym c.limit_in-2.ensures ∙ c.in_ok-bps_read.was)
    (sym c.limit_in-3.ensures ∙ c.in_ok-bps_write.was) (sym c.limit_in-4.ensures ∙ c.in_ok-iops_total.was) (sym c.limit_in-5.ensures ∙ c.in_ok-iops_read.was)
    (sym c.limit_in-6.ensures ∙ c.in_ok-iops_write.was) (ap (λ o. whole_or 0 o) (sym c.get.ensures) ∙ sym c.whole_or.ensures ∙ c.in_ok-iops_size.was)
