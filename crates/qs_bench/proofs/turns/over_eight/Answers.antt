use Rattle.qs_bench.proofs.turns.over_eight.Goals as goal

pub split_all-requires-clause-first : goal.split_all-requires-clause-first
split_all-requires-clause-first g c i k e = (c.in_ok-turns.ensures.1 i k e).0
