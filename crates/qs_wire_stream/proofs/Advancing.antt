-- Runs of calls of a stream over a wire, one behind the other.
use Rattle.std.proofs.Common.{◌≡◌, ℕ, List, [], ◌++◌, length, take, drop, refl, arith}
use Rattle.qs_stream.proofs.Bytes.{takes_on, takes_none, takes_front, gives_on, gives_none, gives_behind}
use Rattle.qs_wire_stream.specs.Currents.{Current, Advanced}
use Rattle.qs_wire_stream.specs.Runs.{RunsJoin}

-- nothing was done
pub advanced_none : (old : Current) → Advanced [] [] old old
advanced_none old = record {
  takes = takes_none old.left old.waiting;
  gives = gives_none old.sent old.held;
  reads = omega arith;
  writes = omega arith;
  waits = omega arith;
}

-- bytes were taken off those that wait
pub advanced_taken : (old : Current) (n : ℕ) → Advanced (take n old.waiting) [] old (record old { waiting = drop n old.waiting })
advanced_taken old n = record {
  takes = takes_front old.left old.waiting (drop n old.waiting) n refl;
  gives = gives_none old.sent old.held;
  reads = omega arith;
  writes = omega arith;
  waits = omega arith;
}

-- bytes were put behind those that wait to be written
pub advanced_put : (old : Current) (bytes : List ℕ) → Advanced [] bytes old (record old { held = old.held ++ bytes })
advanced_put old bytes = record {
  takes = takes_none old.left old.waiting;
  gives = gives_behind old.sent old.held bytes (old.held ++ bytes) refl;
  reads = omega arith;
  writes = omega arith;
  waits = omega arith;
}

pub advanced_on : RunsJoin
advanced_on taken taken' given given' a b c first second = record {
  takes = takes_on a.left b.left c.left a.waiting b.waiting c.waiting taken taken' first.takes second.takes;
  gives = gives_on a.sent b.sent c.sent a.held b.held c.held given given' first.gives second.gives;
  reads = omega (arith, first.reads, second.reads);
  writes = omega (arith, first.writes, second.writes);
  waits = omega (arith, first.waits, second.waits);
}
