use Rattle.std.proofs.Common.{arith, get_or, take, refl}
use Rattle.std.proofs.lemmas.List.{take_more, get_or-replicate}
use Rattle.qs_part.specs.declared.group.Dir.TheVariants.{Read}
use Rattle.qs_group.specs.declared.queue.Queued.{Queued}
use Rattle.qs_group.proofs.Tickets.{shows_more}
use Rattle.qs_group.proofs.queue.taken.Goals as goal

pub loop-w-init : goal.loop-w-init
loop-w-init c = record { size = refl; out = λ k h. get_or-replicate 256 k _ _ h }

pub loop-w-preserved : goal.loop-w-preserved
loop-w-preserved c =
    let o : Queued = record { ticket = 0; member = 0; dir = Read; bytes = 0 } in
    rw (c.from.ensures, take_more c.args.waiting.now c.loop-w.w-index o c.loop-w-test.true)
    (shows_more c.loop-w.taken (take c.loop-w.w-index c.args.waiting.now) (get_or c.args.waiting.now c.loop-w.w-index o) (omega arith) c.loop-w.invariant)
