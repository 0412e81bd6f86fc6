use Rattle.std.proofs.Common.{length}
use Rattle.qs_users.proofs.perms.+perms_at.Given as goal

abbrev pub decreases-perms_at : goal.decreases-perms_at
decreases-perms_at l = length l.nodes.now
