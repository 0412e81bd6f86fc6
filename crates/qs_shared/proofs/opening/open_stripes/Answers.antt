use Rattle.std.proofs.Common.{◌<◌, length, ◌∙◌, arith}
use Rattle.qs_shared.proofs.NewTurns.{stripes_more, taken_first}
use Rattle.qs_shared.proofs.opening.open_stripes.Goals as goal

pub loop-alloc-preserved : goal.loop-alloc-preserved
loop-alloc-preserved g c =
    let some : 0 < length c.loop-alloc.disks.items = (let l = c.remove.ensures.len in omega arith) in record {
      opens = stripes_more g.D.Disk.seen _ _ _ c.remove.result _ _ c.in-Ok.stripe _ _ c.loop-alloc.invariant.opens (taken_first _ c.remove.result _ some c.remove.ensures.value c.remove.ensures.by_index.2) c.in-Ok.ensures.0
          c.in-Ok.ensures.1
          c.in_ok-open_next.ensures.opened
          c.open_next.ensures.turns
          c.open_next.ensures.alone;
      same = c.remove.ensures.capacity ∙ c.loop-alloc.invariant.same;
    }
