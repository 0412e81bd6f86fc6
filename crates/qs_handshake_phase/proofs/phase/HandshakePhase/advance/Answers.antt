-- The handshake has ended, or more was read.
use Rattle.std.proofs.Common.{sym, ap, ◌∙◌, refl}
use Rattle.qs_handshake_phase.proofs.Turning.{goes_of, over_of, waits_of}
use Rattle.qs_handshake_phase.proofs.phase.HandshakePhase.advance.Goals as goal

pub returns-in-Some-clause-rounds : goal.returns-in-Some-clause-rounds
returns-in-Some-clause-rounds g c =
    over_of c.args.self.now.reader _ _ c.args.self.now.over c.in-Some.end
    (sym (ap (λ p. p.over) c.self.view_is) ∙ c.in-Some.is) c.requires.settled

pub returns-in-NotReady-clause-rounds : goal.returns-in-NotReady-clause-rounds
returns-in-NotReady-clause-rounds g c =
    waits_of _ _ (c.fetch.ensures.greets (g.S.Station.book c.args.station.now)) (c.in-NotReady.ensures.wait refl)

pub returns-in-Did : goal.returns-in-Did
returns-in-Did g c = record {
  of = c.requires.of;
  rounds = goes_of _ _ (c.fetch.ensures.greets (g.S.Station.book c.args.station.now));
  later = g.met.S.Station.follows_self c.args.station.now;
}
