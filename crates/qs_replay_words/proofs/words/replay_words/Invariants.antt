-- The words that are left are read on from what was read.
use Rattle.qs_replay_words.proofs.FromLeft.{GoesOn}
use Rattle.qs_replay_words.proofs.words.replay_words.Given as goal

abbrev pub invariant-loop-word : goal.invariant-loop-word
invariant-loop-word l = GoesOn l.words l.word-index l.reading
