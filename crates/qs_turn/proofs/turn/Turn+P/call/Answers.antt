use Rattle.qs_part.specs.Histories.{lawful}
use Rattle.qs_turn.specs.Words.{opening}
use Rattle.qs_turn.proofs.Told.{call_told, can_give, still_fits}
use Rattle.qs_turn.proofs.turn.Turn+P.call.Goals as goal

pub step-reply-requires : goal.step-reply-requires
step-reply-requires g c = still_fits g.P.Part.fixed_of g.P.Part.can g.P.Part.legal _ _ _ _ c.take-word.ensures.holds.runs c.requires.fits

pub give-requires-clause-gives : goal.give-requires-clause-gives
give-requires-clause-gives g c =
    let fits = still_fits g.P.Part.fixed_of g.P.Part.can g.P.Part.legal _ _ _ _ c.take-word.ensures.holds.runs c.requires.fits in
    can_give (lawful g.P.Part.fixed_of g.P.Part.can g.P.Part.legal) _ _ _ _ _ _ _ _ _ c.take-word.ensures.holds (fits, c.step-reply.ensures.legal, c.step-reply.ensures.same) c.of-asked.ensures c.of.ensures

pub returns-clause-call : goal.returns-clause-call
returns-clause-call g c =
    let fits = still_fits g.P.Part.fixed_of g.P.Part.can g.P.Part.legal _ _ _ _ c.take-word.ensures.holds.runs c.requires.fits in
    call_told (lawful g.P.Part.fixed_of g.P.Part.can g.P.Part.legal) (opening c.args.self.now) (record { turn = c.pass.inside.seat.table_id; view = c.pass.inside.seat.me.0 }) c.args.pass.now c.give.new.seat.table_id c.take-word.result.0
    c.args.request c.args.op c.of-asked.result.value c.step-reply.result c.of.result.value c.take-word.result.1 c.step-reply.new.self c.take-word.new.seat.me c.give.new.seat.me
    c.pass.view_is c.take-word.ensures.holds (fits, c.step-reply.ensures.legal, c.step-reply.ensures.same) c.of-asked.ensures c.of.ensures c.give.ensures.added
