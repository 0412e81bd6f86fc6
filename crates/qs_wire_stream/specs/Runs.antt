-- Runs of calls of a stream over a wire.
use Rattle.std.specs.Prelude.{List, ℕ, ◌++◌}
use Rattle.qs_wire_stream.specs.Currents.{Current, Advanced}

-- one run and the next are a run of what both took and gave
abbrev pub RunsJoin : Type 0
RunsJoin = (taken taken' given given' : List ℕ) → (a b c : Current) → Advanced taken given a b →
    Advanced taken' given' b c → Advanced (taken ++ taken') (given ++ given') a c
