-- The line was done and counted; or it wasn't, or memory was refused behind it.
use Rattle.std.proofs.Common.{refl, sym, ap, ◌∙◌, List, Bool}
use Rattle.qs_replay_lines.specs.Numbers.{each}
use Rattle.qs_replay_generated.specs.Changes.{change_by, lives_after}
use Rattle.qs_replay_generated.specs.declared.change.Change.{Change}
use Rattle.qs_replay_generated.proofs.Doing.{left_at, left_behind}
use Rattle.qs_replay_generated.proofs.making.do_made.Goals as goal

pub returns-in_err-told : goal.returns-in_err-told
returns-in_err-told g c = λ wanted comes.
    left_at g.D.Disk.seen c.args.desk.now c.play_made.new.desk wanted _ _ _ _ c.in_err-told.field-0.0 _ c.from_residual.ensures.1 refl (c.in_err-told.ensures wanted comes).1

pub returns-in_err-renew : goal.returns-in_err-renew
returns-in_err-renew g c = λ wanted comes.
    let played = c.in_ok-told.ensures wanted comes in
    left_behind g.D.Disk.seen c.args.desk.now c.play_made.new.desk _ wanted played.0 c.in_ok-told.told _ _ _ _ _ c.from_residual-in_err-renew.ensures.1 refl played.1 refl

pub returns : goal.returns
returns g c = λ wanted comes.
    let played = c.in_ok-told.ensures wanted comes in (
      played.1.calls,
      played.0,
      played.1.text,
      (
        played.1.is,
        c.in_ok-renew.ensures ∙ ap (λ (x : Change). lives_after c.args.live.now.items x (each c.in_ok-told.told.ended)) (c.change_of-change.ensures wanted comes)
            ∙ ap (λ (x : List Bool). lives_after c.args.live.now.items (change_by wanted) x) (sym played.1.tells.answers_are),
        c.counted.ensures played.1.calls played.1.tells,
      ),
    )
