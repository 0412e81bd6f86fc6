-- A round is what was written, and what was read then.
use Rattle.qs_handshake_phase.proofs.Turning.{goes_of, none_of, rounds_on, serves_of, settled_of, waits_of}
use Rattle.qs_handshake_phase.proofs.phase.HandshakePhase.round.Goals as goal

pub returns-in-Some-clause-rounds : goal.returns-in-Some-clause-rounds
returns-in-Some-clause-rounds g c =
    serves_of c.args.self.now.reader _ _ c.args.self.now.over c.in-Some.end c.in-Some.ensures.served.0 c.in-Some.ensures.served.1

pub advance-requires-clause-settled : goal.advance-requires-clause-settled
advance-requires-clause-settled g c =
    settled_of c.write_out.new.self.reader c.write_out.new.self.stream.held c.write_out.new.self.over
    (c.in-Written.ensures.writes (g.S.Station.book c.args.station.now)).1

pub returns-in-Written-clause-rounds : goal.returns-in-Written-clause-rounds
returns-in-Written-clause-rounds g c =
    rounds_on _ _ _ _ (none_of _ _ (c.in-Written.ensures.writes (g.S.Station.book c.args.station.now)).0) c.advance.ensures.rounds

pub returns-in-NotReady-clause-rounds : goal.returns-in-NotReady-clause-rounds
returns-in-NotReady-clause-rounds g c =
    let w = c.in-NotReady.ensures.writes (g.S.Station.book c.args.station.now) in waits_of _ _ (none_of _ _ w.0) w.1

pub returns-in-Failed-clause-rounds : goal.returns-in-Failed-clause-rounds
returns-in-Failed-clause-rounds g c = goes_of _ _ (c.in-Failed.ensures.writes (g.S.Station.book c.args.station.now))
