-- A block whose load failed adds nothing.
use Rattle.std.proofs.Common.{◌*◌, [], inr, refl, ◌∙◌, subst, arith, ℕ}
use Rattle.std.specs.Prelude.{map}
use Rattle.qs_image.specs.Image.{RoseAt, align_of}
use Rattle.qs_replay_generated.proofs.Sums.{nothing}
use Rattle.qs_replay_generated.proofs.sum.with_block.Goals as goal

pub returns-in-Err : goal.returns-in-Err
returns-in-Err g c =
    let disks = map g.D.Disk.seen c.args.disks.now in
    let none = nothing (c.args.b * align_of disks) in
    record {
      adds = record {
        bytes = [];
        is = inr (refl, subst (λ (n : ℕ). RoseAt disks (c.args.b * align_of disks) n (map g.D.Disk.seen c.load_block.new.disks)) (c.load_block.auto.into ∙ c.requires.whole) c.in-Err.ensures.cause);
        sum_is = omega (arith, none, c.ranges.sum.fits);
        stays = record { kept = c.load_block.ensures.kept; past = c.load_block.ensures.past; same = c.load_block.ensures.same };
      };
    }
