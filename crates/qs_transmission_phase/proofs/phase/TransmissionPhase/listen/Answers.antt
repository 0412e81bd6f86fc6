-- More was read, or begun.
use Rattle.std.proofs.Common.{arith}
use Rattle.qs_transmission_phase.proofs.Reading.{place_none, place_on, some_none, some_on}
use Rattle.qs_transmission_phase.proofs.phase.TransmissionPhase.listen.Goals as goal

pub loop-init : goal.loop-init
loop-init g c = record { serves = λ book. some_none _; place = place_none _; later = omega arith }

pub loop-preserved-then-has_input : goal.loop-preserved-then-has_input
loop-preserved-then-has_input g c = record {
  serves = λ book. some_on _ _ _ (c.loop.invariant.serves book) (c.hear.ensures.serves book);
  place = place_on _ _ _ c.loop.invariant.place c.hear.ensures.place;
  later = omega (arith, c.loop.invariant.later, c.hear.ensures.waits);
}

pub returns-in-NotReady-clause-serves : goal.returns-in-NotReady-clause-serves
returns-in-NotReady-clause-serves g c = λ book. some_on _ _ _ (c.loop.invariant.serves book) (c.in-NotReady.ensures.serves book)

pub loop-preserved : goal.loop-preserved
loop-preserved g c = record {
  serves = λ book. some_on _ _ _ (c.loop.invariant.serves book) (c.fetch.ensures.serves book);
  place = place_on _ _ _ c.loop.invariant.place c.fetch.ensures.place;
  later = omega (arith, c.loop.invariant.later, c.fetch.ensures.later);
}

pub returns-then-not-is_written-clause-serves : goal.returns-then-not-is_written-clause-serves
returns-then-not-is_written-clause-serves g c = λ book. some_none _
