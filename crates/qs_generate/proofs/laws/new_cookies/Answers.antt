use Rattle.qs_generate.proofs.Anew.{new_cookies}
use Rattle.qs_generate.proofs.laws.new_cookies.Goals as goal

pub returns : goal.returns
returns c = new_cookies
