use Rattle.qs_keyval.proofs.Spelling.{spells_texts}
use Rattle.qs_keyval.proofs.laws.spellings.Goals as goal

pub returns : goal.returns
returns c = spells_texts
