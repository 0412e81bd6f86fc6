use Rattle.qs_keyval.proofs.Keys.{has_key_parts}
use Rattle.qs_keyval.proofs.laws.keys.Goals as goal

pub returns : goal.returns
returns c = has_key_parts
