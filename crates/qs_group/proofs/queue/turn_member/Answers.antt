use Rattle.std.proofs.Common.{sym, ◌∙◌}
use Rattle.std.proofs.lemmas.List.{take_more}
use Rattle.qs_part.specs.declared.group.Dir.TheVariants.{Read}
use Rattle.qs_group.specs.declared.queue.Queued.{Queued}
use Rattle.qs_group.proofs.Lookups.{sameb_dir, same_dir_is, same_dir_not}
use Rattle.qs_group.proofs.Nearest.{nearest_seen, nearest_other}
use Rattle.qs_group.proofs.queue.turn_member.Goals as goal
use Rattle.qs_group.proofs.queue.turn_member.Goals.{then-eq, else-eq}

pub loop-w-preserved : goal.loop-w-preserved
loop-w-preserved c =
    let o : Queued = record { ticket = 0; member = 0; dir = Read; bytes = 0 } in
    rw (take_more c.args.waiting.now c.loop-w.w-index o c.loop-w-test.true)
    (elim c.if-eq.branch [
      | then-eq w ↦ rw w.nearest-is (nearest_seen c.args.waiting.now c.loop-w.w-index o c.args.turn c.args.dir c.loop-w.nearest w.nearer-nearest.result
          c.loop-w-test.true (same_dir_is _ _ (sym (sameb_dir _ _) ∙ (sym c.eq.ensures ∙ w.if-eq.true))) c.requires.in_range
          w.nearer-nearest.ensures.one w.nearer-nearest.ensures.to_first w.nearer-nearest.ensures.to_second c.loop-w.invariant)
      | else-eq w ↦ rw w.nearest-is (nearest_other _ _ _ _ _ _ (same_dir_not _ _ (sym (sameb_dir _ _) ∙ (sym c.eq.ensures ∙ w.if-eq.false))) c.loop-w.invariant)
    ])
