-- What was asked was told, or memory was refused for it.
use Rattle.std.proofs.Common.{◌≡◌, ℕ, [], ◌∷◌, refl, sym, ap, ◌∙◌, subst}
use Rattle.std.specs.Prelude.{Option, Some}
use Rattle.qs_nbd_handshake.specs.declared.event.Told.{Told}
use Rattle.qs_handshake_phase.specs.Asks.{TellsAll}
use Rattle.qs_handshake_phase.specs.Tellings.{OwnCall, op_for}
use Rattle.qs_handshake_phase.proofs.Wishing.{asks_err, lost_call, told_call}
use Rattle.qs_handshake_phase.proofs.asking.ask.Goals as goal

pub returns-in_err-told-in-Some-clause-asks : goal.returns-in_err-told-in-Some-clause-asks
returns-in_err-told-in-Some-clause-asks g c =
    asks_err c.args.want.now c.from_residual-in_err-told-in-Some.result _ _ c.from_residual-in_err-told-in-Some.ensures.0
    (lost_call c.args.want.now c.in-Some.op c.session_call-reply.result (g.S.Station.book c.args.station.now) (g.S.Station.book c.session_call-reply.new.self)
    (sym c.in_ok-op_for.ensures ∙ c.in-Some.is) c.in_err-told-in-Some.ensures.none c.session_call-reply.ensures.booked)

pub returns-in_ok-told-in-Some-clause-asks : goal.returns-in_ok-told-in-Some-clause-asks
returns-in_ok-told-in-Some-clause-asks g c =
    told_call c.args.want.now c.in-Some.op c.session_call-reply.result c.in_ok-told-in-Some.told c.client_of.result
    (g.S.Station.book c.args.station.now) (g.S.Station.book c.session_call-reply.new.self)
    (sym c.in_ok-op_for.ensures ∙ c.in-Some.is) c.session_call-reply.ensures.may c.in_ok-told-in-Some.ensures.told c.client_of.ensures
    c.session_call-reply.ensures.booked
