use Rattle.qs_nodes.proofs.Keeps.{adds_group, adds_raw, adds_throttle, deletes, ends_group, fresh_tree, reopens_raw, reopens_throttle}
use Rattle.qs_nodes.proofs.laws.kept.Goals as goal

pub returns-clause-fresh : goal.returns-clause-fresh
returns-clause-fresh c size file read_only whole = fresh_tree size file read_only whole

pub returns-clause-add_raw : goal.returns-clause-add_raw
returns-clause-add_raw c v new name child offset size read_only r a t = adds_raw v new name child offset size read_only r a t

pub returns-clause-add_throttle : goal.returns-clause-add_throttle
returns-clause-add_throttle c v new name child group read_only r a t = adds_throttle v new name child group read_only r a t

pub returns-clause-del : goal.returns-clause-del
returns-clause-del c v new name export r a t = deletes v new name export r a t

pub returns-clause-reopen_raw : goal.returns-clause-reopen_raw
returns-clause-reopen_raw c v new name child offset size export r a t = reopens_raw v new name child offset size export r a t

pub returns-clause-reopen_throttle : goal.returns-clause-reopen_throttle
returns-clause-reopen_throttle c v new name child group r a t = reopens_throttle v new name child group r a t

pub returns-clause-group_add : goal.returns-clause-group_add
returns-clause-group_add c v new id r a t = adds_group v new id r a t

pub returns-clause-group_del : goal.returns-clause-group_del
returns-clause-group_del c v new id r a t = ends_group v new id r a t
