-- The run over the disks, and its line.
use Rattle.std.proofs.Common.{List, ap, false, subst, arith}
use Rattle.qs_calls.specs.Runs.{Begins}
use Rattle.qs_replay_generated.proofs.SameDisks.{begun_size}
use Rattle.qs_replay_generated.proofs.Telling.{ended_sooner, ended_whole, made_whole, shaped_whole}
use Rattle.qs_replay_generated.proofs.whole.generate_disks.Goals as goal

pub overflow_mul-size : goal.overflow_mul-size
overflow_mul-size g c =
    let begins = subst (λ (disks : List _). Begins g.D.Disk.seen disks false c.in-Ok.world) (ap (λ v. v.items) c.replace-taken.ensures.value) c.in-Ok.ensures in
    let small = begun_size g.D.Disk.seen c.args.align c.args.blocks c.args.disks.now.items c.in-Ok.world c.from.result begins c.requires.image c.from.ensures in
    omega (arith, small)

pub tell_totals-requires-clause-image : goal.tell_totals-requires-clause-image
tell_totals-requires-clause-image g c =
    let begins = subst (λ (disks : List _). Begins g.D.Disk.seen disks false c.in-Ok.world) (ap (λ v. v.items) c.replace-taken.ensures.value) c.in-Ok.ensures in
    (shaped_whole g.D.Disk.seen c.args.seed c.args.align c.args.blocks c.args.disks.now.items c.in-Ok.world _ _ c.into_disks.result.items begins c.requires.image
    (made_whole g.D.Disk.seen c.args.seed _ c.in-Ok.world _ _ _ c.in-Ok-made.field-0 c.in-Ok-made.is (rw c.from.ensures at c.run_core-world.ensures))
    c.into_disks.ensures).image

pub tell_totals-requires-clause-align : goal.tell_totals-requires-clause-align
tell_totals-requires-clause-align g c =
    let begins = subst (λ (disks : List _). Begins g.D.Disk.seen disks false c.in-Ok.world) (ap (λ v. v.items) c.replace-taken.ensures.value) c.in-Ok.ensures in
    (shaped_whole g.D.Disk.seen c.args.seed c.args.align c.args.blocks c.args.disks.now.items c.in-Ok.world _ _ c.into_disks.result.items begins c.requires.image
    (made_whole g.D.Disk.seen c.args.seed _ c.in-Ok.world _ _ _ c.in-Ok-made.field-0 c.in-Ok-made.is (rw c.from.ensures at c.run_core-world.ensures))
    c.into_disks.ensures).align_is

pub tell_totals-requires-clause-size : goal.tell_totals-requires-clause-size
tell_totals-requires-clause-size g c =
    let begins = subst (λ (disks : List _). Begins g.D.Disk.seen disks false c.in-Ok.world) (ap (λ v. v.items) c.replace-taken.ensures.value) c.in-Ok.ensures in
    (shaped_whole g.D.Disk.seen c.args.seed c.args.align c.args.blocks c.args.disks.now.items c.in-Ok.world _ _ c.into_disks.result.items begins c.requires.image
    (made_whole g.D.Disk.seen c.args.seed _ c.in-Ok.world _ _ _ c.in-Ok-made.field-0 c.in-Ok-made.is (rw c.from.ensures at c.run_core-world.ensures))
    c.into_disks.ensures).size_is

pub returns-in-Ok-made-clause-generates : goal.returns-in-Ok-made-clause-generates
returns-in-Ok-made-clause-generates g c =
    let begins = subst (λ (disks : List _). Begins g.D.Disk.seen disks false c.in-Ok.world) (ap (λ v. v.items) c.replace-taken.ensures.value) c.in-Ok.ensures in
    ended_whole g.D.Disk.seen c.args.seed c.args.align c.args.blocks c.args.disks.now.items c.in-Ok.world _ _ c.into_disks.result.items _ _ _ c.tell_totals.result begins
    (made_whole g.D.Disk.seen c.args.seed _ c.in-Ok.world _ _ _ c.in-Ok-made.field-0 c.in-Ok-made.is (rw c.from.ensures at c.run_core-world.ensures))
    c.into_disks.ensures c.tell_totals.ensures.tells

pub returns-in-Err-made-clause-generates : goal.returns-in-Err-made-clause-generates
returns-in-Err-made-clause-generates g c =
    let begins = subst (λ (disks : List _). Begins g.D.Disk.seen disks false c.in-Ok.world) (ap (λ v. v.items) c.replace-taken.ensures.value) c.in-Ok.ensures in
    ended_sooner g.D.Disk.seen c.args.seed c.args.align c.args.blocks c.args.disks.now.items c.in-Ok.world _ _ c.into_disks.result.items _ c.status_of.result _
    c.in-Err-made.stop c.in-Err-made.is begins (rw c.from.ensures at c.run_core-world.ensures) c.into_disks.ensures c.status_of.ensures
