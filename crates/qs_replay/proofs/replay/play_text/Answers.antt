-- The line that was read was done.
use Rattle.std.specs.Prelude.{false}
use Rattle.qs_replay.proofs.Replaying.{plays_text_of}
use Rattle.qs_replay.proofs.replay.play_text.Goals as goal

pub returns-in-Ok : goal.returns-in-Ok
returns-in-Ok g c =
    plays_text_of g.D.Disk.seen c.args.desk.now c.args.text.now c.in-Ok.line false c.play.result c.done.result c.play.new.self c.done.ensures c.in-Ok.ensures.ok c.play.ensures
