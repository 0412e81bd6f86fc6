use Rattle.qs_determined.proofs.Steps.{one_outcome as law}
use Rattle.qs_determined.proofs.laws.one_outcome.Goals as goal

pub returns : goal.returns
returns c = λ A w v input e d told alike may too is at calm quiet given plain open_.
    law A w v input e d told alike given
    record { may = may; is = is; undisturbed = calm; plain = plain } record { may = too; is = at; undisturbed = quiet; plain = open_ }
