-- What is told fits the options.
use Rattle.qs_daemon_words.proofs.Counts.{all_fit}
use Rattle.qs_daemon_words.proofs.laws.options_once.Goals as goal

pub returns : goal.returns
returns c = all_fit
