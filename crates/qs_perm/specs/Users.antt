-- Users of a node, and what they take and share together, after QEMU's block.c.
use Rattle.std.specs.Prelude.{◌≡◌, ℕ, ◌<◌, Bool, true, false, not, ◌||◌, ◌⊎◌, List, length, Option, Some, None, Result, Ok, Err}
use Rattle.std.specs.List.{fold, slice_index_or}
use Rattle.qs_perm.specs.declared.users.UserPerms.{UserPerms}
use Rattle.qs_perm.specs.Perms.{all, intersection, is_within, none, union}

-- one that takes nothing and shares all
abbrev pub idle : UserPerms
idle = record { taken = none; shared = all }

-- what an export takes and shares: it takes read, and write where it is writable
abbrev pub export_perms : Bool → Bool → UserPerms
export_perms writable share_write = record {
  taken = record { read = true; write = writable; resize = false };
  shared = record { read = true; write = share_write; resize = false };
}

-- two users together
abbrev pub union_of : UserPerms → UserPerms → UserPerms
union_of x y = record { taken = union x.taken y.taken; shared = intersection x.shared y.shared }

-- What a node takes of its child and shares there: the union of what its users take, and the
-- intersection of what they share.
abbrev pub joined_all : List UserPerms → UserPerms
joined_all users = fold union_of idle users

-- one takes what the other doesn't share
abbrev pub conflicts : UserPerms → UserPerms → Bool
conflicts x y = not (is_within x.taken y.shared) || not (is_within y.taken x.shared)

abbrev pub user_at : List UserPerms → ℕ → UserPerms
user_at users i = slice_index_or users i idle

-- users i and j, of which i is the earlier, conflict
abbrev pub ConflictAt : List UserPerms → ℕ → ℕ → Type 0
ConflictAt users i j = (i < j) × (j < length users) × (conflicts (user_at users i) (user_at users j) ≡ true)

-- the first user after this one that conflicts with it
abbrev pub FirstAgainst : List UserPerms → ℕ → Option ℕ → Type 0
FirstAgainst users i None = (j : ℕ) → ConflictAt users i j → ⊥
FirstAgainst users i (Some j) = ConflictAt users i j × ((n : ℕ) → n < j → ConflictAt users i n → ⊥)

-- the first pair of numbers comes before the second
abbrev pub IsBefore : ℕ → ℕ → ℕ → ℕ → Type 0
IsBefore i j m n = (i < m) ⊎ ((i ≡ m) × (j < n))

-- no two users conflict, or these are the first two that do
abbrev pub Checks : List UserPerms → Result Unit (ℕ × ℕ) → Type 0
Checks users (Ok done) = (i j : ℕ) → ConflictAt users i j → ⊥
Checks users (Err pair) =
    ConflictAt users pair.0 pair.1
    × ((i j : ℕ) → IsBefore i j pair.0 pair.1 → ConflictAt users i j → ⊥)
