-- Syncs of a file that is reached through eight handles, when they are needed, and when they fail.
use Rattle.std.specs.Prelude.{◌≡◌, ℕ, ◌<◌, ◌==◌, ◌||◌, ◌&&◌, ⊤, Bool, true, false, not, if◌then◌else◌, List, [], ◌∷◌, replicate, slice_set}
use Rattle.qs_host.specs.declared.sync_log.SyncLog.{SyncLog}
use Rattle.qs_host.specs.declared.sync_log.SyncNeed.{SyncNeed}
use Rattle.qs_host.specs.declared.sync_log.SyncNeed.TheVariants.{Fails, Nothing, Call}

-- What happens to a file: a store through a handle was done, a sync of the file began, that sync ended, with success
-- or without. A history is a list of these, the newest first.
pub data Act : Type 0 where
  Stored : ℕ → Act
  Began : Act
  Ended : Bool → Act

-- a sync goes on
abbrev pub is_going : List Act → Bool
is_going [] = false
is_going (Stored k ∷ older) = is_going older
is_going (Began ∷ older) = true
is_going (Ended well ∷ older) = false

-- one sync goes on at a time, and only one that goes on ends
abbrev pub InTurn : List Act → Type 0
InTurn [] = ⊤
InTurn (Stored k ∷ older) = (k < 8) × InTurn older
InTurn (Began ∷ older) = (is_going older ≡ false) × InTurn older
InTurn (Ended well ∷ older) = (is_going older ≡ true) × InTurn older

-- some sync failed
abbrev pub has_failed : List Act → Bool
has_failed [] = false
has_failed (Stored k ∷ older) = has_failed older
has_failed (Began ∷ older) = has_failed older
has_failed (Ended well ∷ older) = not well || has_failed older

-- something was stored through this handle since the last sync began
abbrev pub stored_since : ℕ → List Act → Bool
stored_since k [] = false
stored_since k (Stored j ∷ older) = (j == k) || stored_since k older
stored_since k (Began ∷ older) = false
stored_since k (Ended well ∷ older) = stored_since k older

-- Every store through this handle came before a sync began that succeeded. A sync covers what was stored before it
-- began, through whichever handle.
abbrev pub is_covered : ℕ → List Act → Bool
is_covered k [] = true
is_covered k (Stored j ∷ older) = not (j == k) && is_covered k older
is_covered k (Began ∷ older) = is_covered k older
is_covered k (Ended well ∷ older) = (well && not (stored_since k older)) || is_covered k older

-- what a sync through a handle has to do: after a failed one all fail, and else the file is called unless all is
-- covered
abbrev pub needed : List Act → ℕ → SyncNeed
needed history k = if has_failed history then Fails else if is_covered k history then Nothing else Call

-- what is kept of a history
abbrev pub logged_after : Act → SyncLog → SyncLog
logged_after (Stored k) log = record { unsynced = slice_set log.unsynced k true; failed = log.failed }
logged_after Began log = record { unsynced = replicate 8 false; failed = log.failed }
logged_after (Ended well) log = record { unsynced = log.unsynced; failed = not well || log.failed }

abbrev pub log_of : List Act → SyncLog
log_of [] = record { unsynced = replicate 8 false; failed = false }
log_of (act ∷ older) = logged_after act (log_of older)
