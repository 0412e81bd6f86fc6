-- The words that are left are read on from what was read.
use Rattle.std.proofs.Common.{◌≡◌, drop}
use Rattle.qs_stdio_words.specs.Words.{nothing_read, read}
use Rattle.qs_stdio_words.proofs.words.stdio_words.Given as goal

abbrev pub invariant-loop-word : goal.invariant-loop-word
invariant-loop-word l = read l.reading (drop l.word-index l.words) ≡ read nothing_read l.words
