-- An empty line, or a comment, does nothing.
use Rattle.std.proofs.Common.{rules, [], refl}
use Rattle.std.specs.Prelude.{false}
use Rattle.qs_script.specs.Lines.{IsQuiet}
use Rattle.qs_script.specs.declared.line.Line.TheVariants.{Nothing}
use Rattle.qs_stream.proofs.Calls.{puts_none}
use Rattle.qs_replay.proofs.replay.do_line.Goals as goal

pub returns-then-is_quiet-clause-puts : goal.returns-then-is_quiet-clause-puts
returns-then-is_quiet-clause-puts g c =
    let quiet : IsQuiet c.args.text.now = search rules in (
      [],
      [],
      (
        record {
          line = Nothing;
          lost = false;
          reads = quiet;
          is = record { plays = refl; does = record { calls_are = refl; text_is = refl; same = refl } };
        },
        puts_none _ c.args.stream.now [] refl,
      ),
    )
