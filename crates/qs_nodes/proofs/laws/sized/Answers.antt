use Rattle.qs_nodes.proofs.Sizes.{adds_group_sizes, deletes_sizes, ends_group_sizes, raw_sizes, reopens_sizes, rethrottles_sizes, throttle_sizes}
use Rattle.qs_nodes.proofs.laws.sized.Goals as goal

pub returns-clause-add_raw : goal.returns-clause-add_raw
returns-clause-add_raw c v new name child offset size read_only r a place = raw_sizes v new name child offset size read_only r a place

pub returns-clause-add_throttle : goal.returns-clause-add_throttle
returns-clause-add_throttle c v new name child group read_only r a place = throttle_sizes v new name child group read_only r a place

pub returns-clause-del : goal.returns-clause-del
returns-clause-del c v new exports name r a place used = deletes_sizes v new exports name r a place used

pub returns-clause-reopen_raw : goal.returns-clause-reopen_raw
returns-clause-reopen_raw c v new exports name child offset size r a place used =
    reopens_sizes v new exports name child offset size r a place used

pub returns-clause-reopen_throttle : goal.returns-clause-reopen_throttle
returns-clause-reopen_throttle c v new name child group r a place = rethrottles_sizes v new name child group r a place

pub returns-clause-group_add : goal.returns-clause-group_add
returns-clause-group_add c v new id r a place = adds_group_sizes v new id r a place

pub returns-clause-group_del : goal.returns-clause-group_del
returns-clause-group_del c v new id r a place = ends_group_sizes v new id r a place
