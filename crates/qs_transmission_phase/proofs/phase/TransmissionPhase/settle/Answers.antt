-- What a round's write leaves.
use Rattle.std.proofs.Common.{inl}
use Rattle.qs_transmission_phase.proofs.Turning.{settles_behind, settles_wait}
use Rattle.qs_transmission_phase.proofs.phase.TransmissionPhase.settle.Goals as goal

pub finish-requires-clause-settled : goal.finish-requires-clause-settled
finish-requires-clause-settled g c = (c.in-Written.ensures.writes (g.S.Station.book c.args.station.now)).2

pub returns-in-NotReady-clause-settles : goal.returns-in-NotReady-clause-settles
returns-in-NotReady-clause-settles g c =
    let writes = c.in-NotReady.ensures.writes (g.S.Station.book c.args.station.now) in
    settles_wait c.args.starved c.args.wait c.pending.result c.awaited.result _ _ writes.0 writes.1 c.awaited.ensures c.pending.ensures (inl writes.2)

pub returns-in-Written-clause-settles : goal.returns-in-Written-clause-settles
returns-in-Written-clause-settles g c =
    let writes = c.in-Written.ensures.writes (g.S.Station.book c.args.station.now) in
    settles_behind c.args.starved c.args.wait c.finish.result _ _ _ writes.0 writes.1 c.finish.ensures.settles
