use Rattle.qs_tracker.proofs.Sound.{fresh_stands}
use Rattle.qs_tracker.proofs.Renumbering.{numbered_anew}
use Rattle.qs_tracker.proofs.laws.renumbering.Goals as goal

pub returns : goal.returns
returns c first cs v stands h = numbered_anew v (fresh_stands first cs v stands) h
