use Rattle.qs_script.proofs.Splitting.{words_lack}
use Rattle.qs_script.proofs.laws.words_lack.Goals as goal

pub returns : goal.returns
returns c = words_lack
