-- One request more was polled.
use Rattle.std.specs.Prelude.{Some}
use Rattle.qs_transmission_phase.proofs.Polling.{above_from, up_to_answer, up_to_none, up_to_wait}
use Rattle.qs_transmission_phase.proofs.Reading.{place_none, place_on}
use Rattle.qs_transmission_phase.proofs.phase.TransmissionPhase.poll_each.Goals as goal

pub loop-init : goal.loop-init
loop-init g c = record {
  of = c.requires.of;
  polls = up_to_none _;
  place = place_none _;
  later = g.met.S.Station.follows_self c.args.station.now;
}

pub loop-preserved-in-Some-poll_one : goal.loop-preserved-in-Some-poll_one
loop-preserved-in-Some-poll_one g c =
    let next = above_from _ _ c.loop.polled (Some c.in-Some-next_above.number) c.self.view_is c.in-Some-next_above.ensures in
    record {
      of = c.in-Some-poll_one.ensures.of;
      polls = up_to_wait _ _ _ c.loop.polled c.in-Some-next_above.number c.loop.wait c.loop.invariant.polls next.0 c.in-Some-poll_one.need next.2
          c.in-Some-poll_one.ensures.polls;
      place = place_on _ _ _ c.loop.invariant.place c.in-Some-poll_one.ensures.place;
      later = g.met.S.Station.follows_on _ _ _ c.loop.invariant.later c.in-Some-poll_one.ensures.later;
    }

pub loop-preserved : goal.loop-preserved
loop-preserved g c =
    let next = above_from _ _ c.loop.polled (Some c.in-Some-next_above.number) c.self.view_is c.in-Some-next_above.ensures in
    record {
      of = c.in-None-poll_one.ensures.of;
      polls = up_to_answer _ _ _ c.loop.polled c.in-Some-next_above.number c.loop.wait c.loop.invariant.polls next.0 c.in-None-poll_one.ensures.polls;
      place = place_on _ _ _ c.loop.invariant.place c.in-None-poll_one.ensures.place;
      later = g.met.S.Station.follows_on _ _ _ c.loop.invariant.later c.in-None-poll_one.ensures.later;
    }
