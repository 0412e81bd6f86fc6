-- One more block is written, or a part of it.
use Rattle.std.proofs.Common.{◌≡◌, ◌+◌, ◌*◌, ◌≤◌, length, take, arith, sym, ap, ◌∙◌, ℕ, zero-mul}
use Rattle.std.specs.Prelude.{map}
use Rattle.qs_bytes.specs.Pieces.{overlay}
use Rattle.qs_bytes.proofs.Overlays.{overlay-none}
use Rattle.qs_image.specs.Image.{align_of, content}
use Rattle.qs_image.proofs.Striped.{same_disks_refl, same_disks_trans, rose_within}
use Rattle.qs_image.proofs.Turns.{stores_more, stores_cut, block_place, block_within}
use Rattle.qs_image.proofs.access.store_span.Goals as goal

pub loop-i-init : goal.loop-i-init
loop-i-init g c = record {
  written = λ _.
      sym
      (ap (λ (n : ℕ). overlay (content (map g.D.Disk.seen c.args.disks.now)) c.args.at (take n c.args.bytes.now)) (zero-mul c.args.align)
      ∙ overlay-none _ c.args.at);
  same = same_disks_refl _;
}

pub loop-i-preserved : goal.loop-i-preserved
loop-i-preserved g c =
    let stores = c.in-Ok.ensures in
    let seen = g.D.Disk.seen in
    let align_is : align_of (map seen c.loop-i.disks) ≡ c.args.align = c.loop-i.invariant.same.align 0 ∙ sym c.requires.align in
    let within : c.loop-i.i * c.args.align + c.args.align ≤ length c.args.bytes.now =
    block_within c.loop-i.i (length c.args.bytes.now) c.args.align (omega arith) in
    let next : (c.loop-i.i + 1) * c.args.align ≡ c.loop-i.i * c.args.align + c.args.align = omega arith in
    record {
      written = λ tell.
          stores_more (map seen c.args.disks.now) (map seen c.loop-i.disks) (map seen c.store_block.new.disks)
          c.args.at (c.loop-i.i * c.args.align) _ _ c.args.bytes.now
          (omega arith) c.requires.inside (block_place c.args.at c.loop-i.i c.args.align _ c.requires.blocks.0 align_is)
          c.loop-i.invariant.same c.loop-i.invariant.written stores tell
          ∙ ap (λ (n : ℕ). overlay (content (map seen c.args.disks.now)) c.args.at (take n c.args.bytes.now)) (omega arith);
      same = same_disks_trans _ _ _ c.loop-i.invariant.same stores.same;
    }

pub returns-in-Err : goal.returns-in-Err
returns-in-Err g c =
    let stores = c.in-Err.ensures in
    let seen = g.D.Disk.seen in
    let align_is : align_of (map seen c.loop-i.disks) ≡ c.args.align = c.loop-i.invariant.same.align 0 ∙ sym c.requires.align in
    let within : c.loop-i.i * c.args.align + c.args.align ≤ length c.args.bytes.now =
    block_within c.loop-i.i (length c.args.bytes.now) c.args.align (omega arith) in
    record {
      written = λ _. tt;
      cut =
          stores_cut (map seen c.args.disks.now) (map seen c.loop-i.disks) (map seen c.store_block.new.disks)
          c.args.at (c.loop-i.i * c.args.align) _ _ c.args.bytes.now c.in-Err.failed
          (omega arith) c.requires.inside (block_place c.args.at c.loop-i.i c.args.align _ c.requires.blocks.0 align_is)
          c.loop-i.invariant.same c.loop-i.invariant.written stores;
      same = same_disks_trans _ _ _ c.loop-i.invariant.same stores.same;
      cause = rose_within _ _ _ c.args.at _ _ _ c.loop-i.invariant.same (omega (arith, block_place c.args.at c.loop-i.i c.args.align _ c.requires.blocks.0 align_is))
          (omega (arith, block_place c.args.at c.loop-i.i c.args.align _ c.requires.blocks.0 align_is)) stores.cause;
    }
