-- The bytes so far are written over the image.
use Rattle.std.proofs.Common.{◌≡◌, ◌*◌, take}
use Rattle.std.specs.Prelude.{map}
use Rattle.qs_bytes.specs.Pieces.{overlay}
use Rattle.qs_image.specs.Image.{content, AllTell, SameDisks}
use Rattle.qs_image.proofs.access.store_span.Given as goal

abbrev pub invariant-loop-i : goal.invariant-loop-i
invariant-loop-i g l = record {
  written : AllTell (map g.D.Disk.seen l.fn.disks) → content (map g.D.Disk.seen l.disks) ≡ overlay (content (map g.D.Disk.seen l.fn.disks)) l.at (take (l.i * l.align) l.bytes);
  same : SameDisks (map g.D.Disk.seen l.fn.disks) (map g.D.Disk.seen l.disks);
}
