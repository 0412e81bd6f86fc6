-- A round is what was read, what was polled, and what was written.
use Rattle.std.proofs.Common.{◌∙◌}
use Rattle.qs_transmission_phase.proofs.Turning.{round_ends}
use Rattle.qs_transmission_phase.proofs.phase.TransmissionPhase.round.Goals as goal

pub returns-clause-rounds : goal.returns-clause-rounds
returns-clause-rounds g c =
    round_ends _ _ _ _ c.listen-starved.result c.poll_each-wait.result (c.listen-starved.ensures.serves (g.S.Station.book c.args.station.now))
    c.poll_each-wait.ensures.polls (c.poll_each-wait.ensures.place.detached ∙ c.listen-starved.ensures.place.detached ∙ c.requires.there)
    c.listen-starved.ensures.wait c.settle.result c.settle.ensures.settles
