-- The first bad word is named.
use Rattle.qs_daemon_words.proofs.Firsts.{names_first}
use Rattle.qs_daemon_words.proofs.laws.first_bad_word.Goals as goal

pub returns : goal.returns
returns c = names_first
