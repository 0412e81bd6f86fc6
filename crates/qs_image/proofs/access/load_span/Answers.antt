-- One more block is read.
use Rattle.std.proofs.Common.{◌≡◌, ◌+◌, ◌*◌, ◌≤◌, length, arith, sym, ◌∙◌}
use Rattle.std.specs.Prelude.{map}
use Rattle.qs_image.specs.Image.{align_of}
use Rattle.qs_image.proofs.Striped.{same_disks_trans, still_tell, rose_within}
use Rattle.qs_image.proofs.Turns.{loads_more, block_place, block_within}
use Rattle.qs_image.proofs.access.load_span.Goals as goal

pub loop-i-preserved : goal.loop-i-preserved
loop-i-preserved g c =
    let loads = c.in-Ok.ensures in
    let seen = g.D.Disk.seen in
    let align_is : align_of (map seen c.loop-i.disks) ≡ c.args.align = c.loop-i.invariant.same.align 0 ∙ sym c.requires.align in
    let piece : length c.load_block.new.into ≡ c.args.align = omega arith in
    let within : c.loop-i.i * c.args.align + c.args.align ≤ length c.loop-i.into =
    omega (arith, block_within c.loop-i.i (length c.args.into.now) c.args.align (omega arith)) in
    record {
      bytes_are = loads_more (map seen c.args.disks.now) (map seen c.loop-i.disks) (map seen c.load_block.new.disks)
          c.args.at (c.loop-i.i * c.args.align) _ ((c.loop-i.i + 1) * c.args.align) _ c.loop-i.into c.load_block.new.into
          (omega arith) (omega arith) (block_place c.args.at c.loop-i.i c.args.align _ c.requires.blocks.0 align_is)
          c.loop-i.invariant.same c.loop-i.invariant.bytes_are c.loop-i.invariant.kept loads;
      kept = λ tell. loads.kept (still_tell _ _ c.loop-i.invariant.same tell) ∙ c.loop-i.invariant.kept tell;
      past = λ tell b. loads.past (still_tell _ _ c.loop-i.invariant.same tell) b ∙ c.loop-i.invariant.past tell b;
      same = same_disks_trans _ _ _ c.loop-i.invariant.same loads.same;
    }

pub returns-in-Err : goal.returns-in-Err
returns-in-Err g c =
    let loads = c.in-Err.ensures in
    let seen = g.D.Disk.seen in
    let align_is : align_of (map seen c.loop-i.disks) ≡ c.args.align = c.loop-i.invariant.same.align 0 ∙ sym c.requires.align in
    let piece : length c.load_block.new.into ≡ c.args.align = omega arith in
    let within : c.loop-i.i * c.args.align + c.args.align ≤ length c.loop-i.into =
    omega (arith, block_within c.loop-i.i (length c.args.into.now) c.args.align (omega arith)) in
    record {
      bytes_are = λ _. tt;
      kept = λ tell. loads.kept (still_tell _ _ c.loop-i.invariant.same tell) ∙ c.loop-i.invariant.kept tell;
      past = λ tell b. loads.past (still_tell _ _ c.loop-i.invariant.same tell) b ∙ c.loop-i.invariant.past tell b;
      same = same_disks_trans _ _ _ c.loop-i.invariant.same loads.same;
      cause = rose_within _ _ _ c.args.at _ _ _ c.loop-i.invariant.same (omega (arith, block_place c.args.at c.loop-i.i c.args.align _ c.requires.blocks.0 align_is))
          (omega (arith, block_place c.args.at c.loop-i.i c.args.align _ c.requires.blocks.0 align_is)) loads.cause;
    }
