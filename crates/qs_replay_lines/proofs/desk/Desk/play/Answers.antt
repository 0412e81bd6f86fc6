-- Nothing happens.
use Rattle.std.proofs.Common.{[], false, refl, subst, sym, append-nil}
use Rattle.qs_script.specs.declared.line.Line.{Line}
use Rattle.qs_replay_lines.specs.Effects.{Played}
use Rattle.qs_replay_lines.proofs.Numbers.{quiet_tells}
use Rattle.qs_replay_lines.proofs.desk.Desk.play.Goals as goal

pub returns-in-Nothing : goal.returns-in-Nothing
returns-in-Nothing g c =
    subst (λ (l : Line). Played g.D.Disk.seen c.args.self.now l false c.quiet.result c.args.self.now) (sym c.in-Nothing.is)
    (record {
      calls = [];
      text = [];
      is = record { plays = refl; does = record { calls_are = refl; text_is = refl; same = refl } };
      printed = sym (append-nil c.args.self.now.out);
      tells = quiet_tells [] c.quiet.result c.quiet.ensures refl refl;
    })
