use Rattle.qs_graph.proofs.Sound.{stands_size, stands_still, still_way}
use Rattle.qs_graph.proofs.laws.stays.Goals as goal

pub returns-clause-place : goal.returns-clause-place
returns-clause-place c opening cs v e x stands at = stands_still opening cs v e x stands at

pub returns-clause-way : goal.returns-clause-way
returns-clause-way c opening cs v e x reply stands at may =
    still_way opening v e x reply (stands_size opening cs v stands) (stands_still opening cs v e x stands at) may
