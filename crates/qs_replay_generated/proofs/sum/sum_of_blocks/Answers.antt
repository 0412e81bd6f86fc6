-- No block yet, and then one more.
use Rattle.std.proofs.Common.{ℕ, subst}
use Rattle.std.specs.Prelude.{map}
use Rattle.qs_image.specs.Image.{align_of}
use Rattle.qs_replay_generated.specs.Summing.{AddsBlock}
use Rattle.qs_replay_generated.proofs.Sums.{sums_more, sums_none}
use Rattle.qs_replay_generated.proofs.sum.sum_of_blocks.Goals as goal

pub loop-b-init : goal.loop-b-init
loop-b-init g c = sums_none g.D.Disk.seen (align_of (map g.D.Disk.seen c.args.disks.now)) c.args.disks.now

pub loop-b-preserved : goal.loop-b-preserved
loop-b-preserved g c =
    let seen = g.D.Disk.seen in
    sums_more seen (align_of (map seen c.args.disks.now)) c.loop-b.b c.loop-b.sum c.with_block-sum.result c.args.disks.now c.loop-b.disks c.with_block-sum.new.disks c.loop-b.invariant
    (subst (λ (align : ℕ). AddsBlock (map seen c.loop-b.disks) align c.loop-b.b c.loop-b.sum c.with_block-sum.result (map seen c.with_block-sum.new.disks)) (c.loop-b.invariant.stays.same.align 0) c.with_block-sum.ensures.adds)
