use Rattle.std.proofs.Common.{◌≡◌, ℕ, ◌+◌, ◌*◌, List, length, subst, sym, arith}
use Rattle.std.proofs.lemmas.List.{length-append}
use Rattle.qs_outside.specs.Journal.{Journal}
use Rattle.qs_replay.specs.ZeroDisks.{AreFrom, IsZeroDisk}
use Rattle.qs_replay.proofs.ZeroDisks.{from_more, zero_image}
use Rattle.qs_replay.proofs.disks.zero_disks.Goals as goal

pub loop-stripe-preserved : goal.loop-stripe-preserved
loop-stripe-preserved c =
    let align : ℕ = c.args.told.align in
    let size : ℕ = c.args.told.blocks * align in
    let ds : List Journal = c.loop-stripe.disks.items in
    let d : Journal = c.in_ok-zero_disk.field-0 in
    let is : IsZeroDisk align size (0 + length ds) d
    = subst (λ (j : ℕ). IsZeroDisk align size j d) (omega (arith, c.loop-stripe.invariant.many)) c.in_ok-zero_disk.ensures in
    record {
      many = rw (c.in_ok-push.ensures.items, length-append) (omega (arith, c.loop-stripe.invariant.many));
      are = subst (λ (xs : List Journal). AreFrom align size 0 xs) (sym c.in_ok-push.ensures.items) (from_more align size 0 ds d c.loop-stripe.invariant.are is);
    }

pub returns : goal.returns
returns c =
    let eight : length c.loop-stripe.disks.items ≡ 8
    = omega (arith, c.loop-stripe.invariant.many, c.loop-stripe.auto.stripe-end, c.loop-stripe-test.false) in
    zero_image c.args.told.align c.args.told.blocks c.loop-stripe.disks.items c.requires.align c.requires.blocks eight c.loop-stripe.invariant.are
