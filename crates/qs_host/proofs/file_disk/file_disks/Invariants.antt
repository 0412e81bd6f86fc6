-- The disks so far are the first of the eight.
use Rattle.std.proofs.Common.{◌≡◌, map}
use Rattle.qs_host.specs.Stripes.{Shape, stripes}
use Rattle.qs_host.proofs.file_disk.file_disks.Given as goal

abbrev pub invariant-loop-stripe : goal.invariant-loop-stripe
invariant-loop-stripe g l = map {B = Shape} (λ d. (d.stripe, d.align, d.length)) l.disks.items ≡ stripes l.stripe l.align l.length
