-- The words that are left are read on from what was told.
use Rattle.std.proofs.Common.{◌≡◌, drop, length, ◌-◌}
use Rattle.std.specs.Prelude.{None}
use Rattle.qs_daemon_words.specs.Words.{about, all_options, nothing_told}
use Rattle.qs_daemon_words.proofs.words.daemon_words.Given as goal

abbrev pub invariant-loop-at : goal.invariant-loop-at
invariant-loop-at l =
    (about l.words ≡ None) × (all_options l.at l.told (drop l.at l.words) ≡ all_options 0 nothing_told l.words)

abbrev pub decreases-loop-at : goal.decreases-loop-at
decreases-loop-at l = length l.words - l.at
