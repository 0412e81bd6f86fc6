-- Sets of the permissions that a node's users take and share.
use Rattle.std.specs.Prelude.{Bool, true, false, not, ◌&&◌, ◌||◌}
use Rattle.qs_perm.specs.declared.perms.Perms.{Perms}

abbrev pub none : Perms
none = record { read = false; write = false; resize = false }

abbrev pub all : Perms
all = record { read = true; write = true; resize = true }

-- what is in one of two sets
abbrev pub union : Perms → Perms → Perms
union x y = record { read = x.read || y.read; write = x.write || y.write; resize = x.resize || y.resize }

-- what is in both
abbrev pub intersection : Perms → Perms → Perms
intersection x y = record { read = x.read && y.read; write = x.write && y.write; resize = x.resize && y.resize }

-- each permission of the first set is in the second
abbrev pub is_within : Perms → Perms → Bool
is_within x y = (not x.read || y.read) && (not x.write || y.write) && (not x.resize || y.resize)
