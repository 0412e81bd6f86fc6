-- The words up to here may begin the command.
use Rattle.std.proofs.Common.{take}
use Rattle.qs_replay_words.specs.Words.{AreRead, nothing_read}
use Rattle.qsd_replay.proofs.stray.stray_word.Given as goal

abbrev pub invariant-loop-i : goal.invariant-loop-i
invariant-loop-i l = AreRead nothing_read (take l.i l.words) l.reading
