use Rattle.qs_nbd_transmission.proofs.stage.take_piece.Goals as goal

pub returns-in-Fills-clause-step : goal.returns-in-Fills-clause-step
returns-in-Fills-clause-step c = rw c.in-Fills.is (c.fill.ensures.step c.args.structured)

pub returns-in-Skips-clause-step : goal.returns-in-Skips-clause-step
returns-in-Skips-clause-step c = rw c.in-Skips.is (c.skip.ensures.step c.args.structured)
