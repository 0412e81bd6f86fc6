-- The numbers of the first disk are those of the image.
use Rattle.std.proofs.Common.{◌≡◌, ◌<◌, length, sym, ap, ◌∙◌, arith}
use Rattle.std.specs.Prelude.{map}
use Rattle.std.proofs.lemmas.List.{length-map}
use Rattle.qs_outside.specs.Blocks.{Seen}
use Rattle.qs_image.specs.Image.{disk}
use Rattle.qs_image.proofs.Striped.{seen_at}
use Rattle.qs_image.proofs.tests.shape.Goals as goal

pub returns-clause-align : goal.returns-clause-align
returns-clause-align g c =
    let seen = g.D.Disk.seen in
    let some : 0 < length c.args.disks.now = omega (arith, length-map c.args.disks.now seen, c.requires.0.0) in
    let first : seen c.index-disks-0.result ≡ disk (map seen c.args.disks.now) 0 =
    ap seen c.index-disks-0.is ∙ sym (seen_at seen c.args.disks.now 0 c.index-disks-0.result some) in
    c.align.ensures ∙ ap (λ (d : Seen). d.align) first

pub returns-clause-size : goal.returns-clause-size
returns-clause-size g c =
    let seen = g.D.Disk.seen in
    let some : 0 < length c.args.disks.now = omega (arith, length-map c.args.disks.now seen, c.requires.0.0) in
    let first : seen c.index-disks-0-2.result ≡ disk (map seen c.args.disks.now) 0 =
    ap seen c.index-disks-0-2.is ∙ sym (seen_at seen c.args.disks.now 0 c.index-disks-0-2.result some) in
    c.length.ensures ∙ ap (λ (d : Seen). d.size) first
