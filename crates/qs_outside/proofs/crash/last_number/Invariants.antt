use Rattle.std.proofs.Common.{◌≡◌, take}
use Rattle.qs_outside.specs.Crashes.{number_of}
use Rattle.qs_outside.proofs.crash.last_number.Given as goal

abbrev pub invariant-loop-pair : goal.invariant-loop-pair
invariant-loop-pair l = l.number ≡ number_of l.rest (take l.pair-index l.picks) l.b
