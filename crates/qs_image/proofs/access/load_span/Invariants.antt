-- The bytes so far are those of the image, which is as it was.
use Rattle.std.proofs.Common.{◌≡◌, ◌*◌, take}
use Rattle.std.specs.Prelude.{map}
use Rattle.qs_bytes.specs.Pieces.{part}
use Rattle.qs_outside.specs.Blocks.{Same}
use Rattle.qs_image.specs.Image.{content, block_past, AllTell, SameDisks}
use Rattle.qs_image.proofs.access.load_span.Given as goal

abbrev pub invariant-loop-i : goal.invariant-loop-i
invariant-loop-i g l = record {
  bytes_are : AllTell (map g.D.Disk.seen l.fn.disks) → take (l.i * l.align) l.into ≡ part (content (map g.D.Disk.seen l.fn.disks)) l.at (l.i * l.align);
  kept : AllTell (map g.D.Disk.seen l.fn.disks) → content (map g.D.Disk.seen l.disks) ≡ content (map g.D.Disk.seen l.fn.disks);
  past : AllTell (map g.D.Disk.seen l.fn.disks) → Same (block_past (map g.D.Disk.seen l.fn.disks)) (block_past (map g.D.Disk.seen l.disks));
  same : SameDisks (map g.D.Disk.seen l.fn.disks) (map g.D.Disk.seen l.disks);
}
