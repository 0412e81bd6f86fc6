use Rattle.qs_turn_uses.proofs.calls.on_stripe.Goals as goal

pub call-requires-clause-turn : goal.call-requires-clause-turn
call-requires-clause-turn g c = c.requires.turn

pub call-requires-clause-fits : goal.call-requires-clause-fits
call-requires-clause-fits g c = c.requires.fits

pub returns-clause-turn : goal.returns-clause-turn
returns-clause-turn g c = c.call.ensures.turn

pub returns-clause-call : goal.returns-clause-call
returns-clause-call g c = c.call.ensures.call
