use Rattle.std.proofs.Common.{◌≡◌, ◌++◌, map, take, drop}
use Rattle.qs_world.specs.Follows.{abandoned_of}
use Rattle.qs_world.proofs.live.abandon_all.Given as goal

abbrev pub invariant-loop-live : goal.invariant-loop-live
invariant-loop-live l = l.live-items ≡ map (abandoned_of l.session) (take l.live-index l.fn.requests) ++ drop l.live-index l.fn.requests
