-- The line was done and its text put, or it wasn't done to its end.
use Rattle.std.proofs.Common.{ap, ◌∙◌}
use Rattle.qs_replay_lines.specs.declared.desk.Desk.{Desk}
use Rattle.qs_replay.proofs.Turning.{leaves_text, puts_text}
use Rattle.qs_replay.proofs.replay.do_spelled.Goals as goal

pub returns-in_err-play_text-clause-puts : goal.returns-in_err-play_text-clause-puts
returns-in_err-play_text-clause-puts g c =
    leaves_text g.D.Disk.seen c.args.desk.now c.play_text.new.desk _ _ c.args.text.now _ _ c.from_residual.ensures.1 c.in_err-play_text.ensures

pub returns-in_err-play_text-clause-empty : goal.returns-in_err-play_text-clause-empty
returns-in_err-play_text-clause-empty g c = c.in_err-play_text.ensures.1 ∙ c.requires

pub returns-clause-puts : goal.returns-clause-puts
returns-clause-puts g c =
    puts_text g.D.Disk.seen c.args.desk.now c.play_text.new.desk c.print.new.desk _ _ _ _ c.args.text.now c.requires c.in_ok-play_text.ensures c.print.ensures.puts
    (ap (λ (d : Desk _). d.world) c.print.ensures.desk) (ap (λ (d : Desk _). d.table) c.print.ensures.desk)

pub returns-clause-empty : goal.returns-clause-empty
returns-clause-empty g c = ap (λ (d : Desk _). d.out) c.print.ensures.desk
