-- The words up to here may begin the command.
use Rattle.std.proofs.Common.{◌≡◌, take}
use Rattle.std.specs.Prelude.{Some}
use Rattle.qs_stdio_words.specs.Words.{nothing_read, read}
use Rattle.qsd_stdio.proofs.stray.stray_word.Given as goal

abbrev pub invariant-loop-i : goal.invariant-loop-i
invariant-loop-i l = read nothing_read (take l.i l.words) ≡ Some l.reading
