-- Histories of a group, and what its limits admitted in them.
use Rattle.std.specs.Prelude.{◌≡◌, ℕ, ◌-◌, ◌<◌, ◌≤◌, max, if◌then◌else◌, List, [], ◌∷◌, ◌++◌, Option, Some, None, IsTrue}
use Rattle.std.specs.Int.{div_ceil}
use Rattle.qs_part.specs.declared.group.Dir.{Dir}
use Rattle.qs_part.specs.declared.group.GroupOp.{GroupOp}
use Rattle.qs_part.specs.declared.group.GroupOp.TheVariants.{Admit, Set as SetTo}
use Rattle.qs_part.specs.declared.group.GroupReply.{GroupReply}
use Rattle.qs_part.specs.declared.group.GroupReply.TheVariants.{Go, Wait, Set as IsSet}
use Rattle.qs_part.specs.declared.limits.Dim.{Dim}
use Rattle.qs_part.specs.declared.limits.Limit.{Limit}
use Rattle.qs_part.specs.declared.limits.Limits.{Limits}
use Rattle.qs_part.specs.Limits.{limit_of}
use Rattle.qs_part.specs.Histories.{Call, lawful, StandsFor}
use Rattle.qs_bucket.specs.Admissions.{Admission, owed}
use Rattle.qs_bucket.specs.Bucket.{first_wait}
use Rattle.qs_group.specs.declared.queue.Queued.{Queued}
use Rattle.qs_group.specs.Budget.{Which, First, Second, has_pair, rate_of, capacity, reading_at}
use Rattle.qs_group.specs.Queue.{ticket_at}
use Rattle.qs_group.specs.Levels.{Key, applies, units_for}
use Rattle.qs_group.specs.Table.{GroupValue, fresh, Fits, after, answers}

-- a call that may be: the operation fits and the answer may come; nothing is fixed about a group
abbrev pub lawful_call : GroupValue → GroupOp → GroupReply → GroupValue → Type 0
lawful_call = lawful (λ (v : GroupValue). tt) (λ (fixed : Unit {0}) op. Fits op) answers

-- a group stands for a history of a new one
abbrev pub StandsForFresh : List (Call GroupOp GroupReply) → GroupValue → Type 0
StandsForFresh cs v = StandsFor lawful_call fresh cs v

-- the limits of the last Set
abbrev pub set_by : Limits → GroupOp → GroupReply → Limits
set_by old (SetTo l) IsSet = l
set_by old _ _ = old

abbrev pub last_set : Limits → List (Call GroupOp GroupReply) → Limits
last_set l [] = l
last_set l (c ∷ cs) = last_set (set_by l c.op c.reply) cs

-- a request that goes is one admission more of a limit that applies to it
abbrev pub counted_go : Dim → GroupValue → Option Queued → ℕ → List Admission → List Admission
counted_go dim v None now xs = xs
counted_go dim v (Some w) now xs =
    if applies dim w.dir then xs ++ record {
      reading = reading_at v.budget now;
      units = units_for v.budget dim w.bytes;
    } ∷ [] else xs

-- the admissions of a limit after one answer more: Go adds one, Set forgets them
abbrev pub admissions_counted : Dim → GroupValue → GroupOp → GroupReply → List Admission → List Admission
admissions_counted dim v (Admit t now) Go xs = counted_go dim v (ticket_at v.waiting t) now xs
admissions_counted dim v (SetTo l) IsSet xs = []
admissions_counted dim v _ _ xs = xs

-- the admissions of a limit since the last Set
abbrev pub admissions : Dim → GroupValue → List (Call GroupOp GroupReply) → List Admission → List Admission
admissions dim v [] xs = xs
admissions dim v (c ∷ cs) xs = admissions dim (after v c.op c.reply) cs (admissions_counted dim v c.op c.reply xs)

-- the greatest reading of admissions, or 0
abbrev pub greatest_reading : List Admission → ℕ
greatest_reading [] = 0
greatest_reading (a ∷ xs) = max a.reading (greatest_reading xs)

-- how long what is owed at reading t takes to leak down to the bucket of a pair
abbrev pub pair_asks : Limit → Which → List Admission → ℕ → ℕ
pair_asks x which xs t =
    if has_pair x which then div_ceil (owed (rate_of x which) xs t - capacity x which) (rate_of x which) else 0

-- what a limit asks for: what its first pair does, and where that is no wait, what its second does
abbrev pub limit_asks : Limit → List Admission → ℕ → ℕ
limit_asks x xs t = first_wait (pair_asks x First xs t) (pair_asks x Second xs t)

-- a wait that a limit asks for which applies to a direction, and none asks for a longer one
pub record IsGreatestWait (l : Limits) (lists : Dim → List Admission) (d : Dir) (t ns : ℕ) : Type 0 where
  pub longest : (dim : Dim) → IsTrue (applies dim d) → limit_asks (limit_of l dim) (lists dim) t ≤ ns
  pub asked : (dim : Dim) × IsTrue (applies dim d) × (limit_asks (limit_of l dim) (lists dim) t ≡ ns)

-- a request goes where each pair of each limit that applies to it is owed at most its bucket, and else waits as long as
-- a limit asks for
abbrev pub ByAdmissions : Limits → (Dim → List Admission) → Dir → ℕ → GroupReply → Type 0
ByAdmissions l lists d t Go =
    (key : Key) → IsTrue (applies key.dim d) → IsTrue (has_pair (limit_of l key.dim) key.which) →
    owed (rate_of (limit_of l key.dim) key.which) (lists key.dim) t ≤ capacity (limit_of l key.dim) key.which
ByAdmissions l lists d t (Wait ns) = (0 < ns) × IsGreatestWait l lists d t ns
ByAdmissions l lists d t _ = Unit {0}
