-- What a group's levels hold in every history.
use Rattle.std.proofs.Common.{◌≡◌, ◌≢◌, ℕ, ◌+◌, ◌-◌, ◌≤◌, List, [], ◌∷◌, ◌++◌, Bool, true, false, cond, Option, Some, None, refl, sym, ◌∙◌, ap, subst, inl, inr, ◌⊎◌, arith}
use Rattle.std.specs.Prelude.{max, ◌==◌, ◌&&◌, ◌*◌, ◌^◌, ◌<◌, not, nat_lt, IsTrue}
use Rattle.std.specs.Int.{div_ceil}
use Rattle.std.proofs.lemmas.Bool.Decides.{nat_tests}
use Rattle.qs_part.specs.declared.group.Dir.{Dir}
use Rattle.qs_part.specs.declared.group.Dir.TheVariants.{Read, Write}
use Rattle.qs_part.specs.declared.group.GroupOp.{GroupOp}
use Rattle.qs_part.specs.declared.group.GroupOp.TheVariants.{Queue, Admit, Withdraw, Set as SetTo}
use Rattle.qs_part.specs.declared.group.GroupReply.{GroupReply}
use Rattle.qs_part.specs.declared.group.GroupReply.TheVariants.{Ticket, Wait, Go, Withdrawn, Set as IsSet}
use Rattle.qs_part.specs.declared.limits.Dim.{Dim}
use Rattle.qs_part.specs.declared.limits.Dim.TheVariants.{BpsTotal, BpsRead, BpsWrite, IopsTotal, IopsRead, IopsWrite}
use Rattle.qs_part.specs.declared.limits.Limits.{Limits}
use Rattle.qs_part.specs.declared.limits.Limit.{Limit}
use Rattle.qs_part.specs.Limits.{limit_of, first_broken}
use Rattle.qs_part.specs.Histories.{Call, StandsFor}
use Rattle.qs_bucket.specs.declared.bucket.Burst.{Burst}
use Rattle.qs_bucket.specs.Admissions.{Admission, owed, UpTo, AdmittedByRule}
use Rattle.qs_bucket.specs.Level.{LevelValue, empty, effective, level_at, wait_at, level_added, IsOwedBy}
use Rattle.qs_bucket.specs.Bucket.{BucketValue, burst_level, wait_of, filled}
use Rattle.qs_bucket.proofs.Both.{added_rate, no_waits}
use Rattle.qs_bucket.proofs.Owed.{UpTo-later, UpTo-append, owed_added}
use Rattle.qs_bucket.proofs.Windows.{rule_none, rule_added, below_bucket}
use Rattle.qs_group.specs.declared.queue.Queued.{Queued}
use Rattle.qs_group.specs.declared.budget.Budget.{Budget}
use Rattle.qs_group.specs.Budget.{Which, First, Second, IsGood, has_pair, rate_of, capacity, burst_for, bucket_for, budget_for, wait_for, reading_at, charged}
use Rattle.qs_group.specs.Queue.{ticket_at}
use Rattle.qs_group.specs.Levels.{Key, bucket_in, level_in, level_of, applies, units_for}
use Rattle.qs_group.specs.Table.{GroupValue, unlimited, fresh, ticket_passed, May, MayAdmit, after}
use Rattle.qs_group.specs.History.{lawful_call, StandsForFresh, set_by, last_set, counted_go, admissions_counted, admissions, greatest_reading, pair_asks, limit_asks, ByAdmissions}
use Rattle.qs_group.proofs.Checked.{good}

-- a level holds what these admissions owe, and they were admitted by the rule
pub record Keeps (b : LevelValue) (reading : ℕ) (xs : List Admission) : Type 0 where
  pub last : b.last ≤ reading
  pub upto : UpTo reading xs
  pub is_owed : b.rate ≢ 0 → IsOwedBy b xs
  pub rule : b.rate ≢ 0 → AdmittedByRule b.rate b.bucket xs

pub added_up_to : (b : LevelValue) (r units : ℕ) → b.last ≤ r → (level_added b r units).last ≤ r
added_up_to b r units h = go (b.rate == 0)
  where
    go : (z : Bool) → (cond z b (record { rate = b.rate; bucket = b.bucket; level = level_at b (effective b r) + units; last = effective b r })).last ≤ r
    go true = h
    go false = omega arith

-- one admission more
pub keeps_more : (b : LevelValue) (reading : ℕ) (xs : List Admission) (r units : ℕ) → reading ≤ r → wait_at b r ≡ 0 → Keeps b reading xs →
    Keeps (level_added b r units) r (xs ++ record { reading = r; units = units } ∷ [])
keeps_more b reading xs r units later none keeps = record {
  last = added_up_to b r units (omega (arith, keeps.last));
  upto = UpTo-append xs _ r (UpTo-later xs reading r later keeps.upto) (omega arith);
  is_owed = λ h. let some : b.rate ≢ 0 = rw same.0 at h in
      subst (λ (e : ℕ). IsOwedBy (level_added b r units) (xs ++ record { reading = e; units = units } ∷ [])) now (owed_added b xs r units some (keeps.is_owed some));
  rule = λ h. let some : b.rate ≢ 0 = rw same.0 at h in
      rw (same.0, same.1) (subst (λ (e : ℕ). AdmittedByRule b.rate b.bucket (xs ++ record { reading = e; units = units } ∷ [])) now
      (rule_added b xs r units some (keeps.is_owed some) none (keeps.rule some)));
}
  where
    same : ((level_added b r units).rate ≡ b.rate) × ((level_added b r units).bucket ≡ b.bucket)
    same = added_rate b r units

    now : max b.last r ≡ r
    now = omega (arith, keeps.last)

-- nothing more
pub keeps_later : (b : LevelValue) (reading : ℕ) (xs : List Admission) (r : ℕ) → reading ≤ r → Keeps b reading xs → Keeps b r xs
keeps_later b reading xs r later keeps = record {
  last = omega (arith, keeps.last);
  upto = UpTo-later xs reading r later keeps.upto;
  is_owed = keeps.is_owed;
  rule = keeps.rule;
}

-- nothing was admitted
pub keeps_empty : (rate bucket : ℕ) → Keeps (empty rate bucket) 0 []
keeps_empty rate bucket = record {
  last = omega arith;
  upto = tt;
  is_owed = λ _. record { upto = tt; owes = λ t h. omega arith };
  rule = λ _. rule_none rate bucket;
}

pub keeps_burst : (o : Option Burst) → Keeps (burst_level o) 0 []
keeps_burst None = keeps_empty _ _
keeps_burst (Some x) = keeps_empty _ _

pub keeps_bucket : (x : Limit) (which : Which) → Keeps (level_in (bucket_for x) which) 0 []
keeps_bucket x First = keeps_empty _ _
keeps_bucket x Second = keeps_burst (burst_for x)

pub keeps_opened : (l : Limits) (dim : Dim) (which : Which) → Keeps (level_in (bucket_in (budget_for l) dim) which) 0 []
keeps_opened l BpsTotal which = keeps_bucket l.bps_total which
keeps_opened l BpsRead which = keeps_bucket l.bps_read which
keeps_opened l BpsWrite which = keeps_bucket l.bps_write which
keeps_opened l IopsTotal which = keeps_bucket l.iops_total which
keeps_opened l IopsRead which = keeps_bucket l.iops_read which
keeps_opened l IopsWrite which = keeps_bucket l.iops_write which

-- a request that goes is counted by each bucket that applies to it, and by no other
pub charged_bucket : (b : Budget) (d : Dir) (n r : ℕ) (dim : Dim) →
    bucket_in (charged b d n r) dim ≡ cond (applies dim d) (filled (bucket_in b dim) r (units_for b dim n)) (bucket_in b dim)
charged_bucket b Read n r BpsTotal = refl
charged_bucket b Read n r BpsRead = refl
charged_bucket b Read n r BpsWrite = refl
charged_bucket b Read n r IopsTotal = refl
charged_bucket b Read n r IopsRead = refl
charged_bucket b Read n r IopsWrite = refl
charged_bucket b Write n r BpsTotal = refl
charged_bucket b Write n r BpsRead = refl
charged_bucket b Write n r BpsWrite = refl
charged_bucket b Write n r IopsTotal = refl
charged_bucket b Write n r IopsRead = refl
charged_bucket b Write n r IopsWrite = refl

pub filled_level : (x : BucketValue) (z : Bool) (r units : ℕ) (which : Which) →
    level_in (cond z (filled x r units) x) which ≡ cond z (level_added (level_in x which) r units) (level_in x which)
filled_level x true r units First = refl
filled_level x true r units Second = refl
filled_level x false r units which = refl

pub charged_level : (b : Budget) (d : Dir) (n r : ℕ) (key : Key) →
    level_of (charged b d n r) key ≡ cond (applies key.dim d) (level_added (level_of b key) r (units_for b key.dim n)) (level_of b key)
charged_level b d n r key =
    ap (λ (x : BucketValue). level_in x key.which) (charged_bucket b d n r key.dim)
    ∙ filled_level (bucket_in b key.dim) (applies key.dim d) r (units_for b key.dim n) key.which

-- a bucket asks for no wait, so neither of its levels does
pub level_waits : (x : BucketValue) (which : Which) (r : ℕ) → wait_of x r ≡ 0 → wait_at (level_in x which) r ≡ 0
level_waits x First r none = (no_waits (wait_at x.first r) (wait_at x.second r) none).0
level_waits x Second r none = (no_waits (wait_at x.first r) (wait_at x.second r) none).1

-- no limit that applies to a direction asks for more than the greatest wait
pub applies_waits : (b : Budget) (d : Dir) (r : ℕ) (dim : Dim) → IsTrue (applies dim d) → wait_of (bucket_in b dim) r ≤ wait_for b d r
applies_waits b Read r BpsTotal h = omega arith
applies_waits b Read r BpsRead h = omega arith
applies_waits b Read r BpsWrite h = absurd (cc)
applies_waits b Read r IopsTotal h = omega arith
applies_waits b Read r IopsRead h = omega arith
applies_waits b Read r IopsWrite h = absurd (cc)
applies_waits b Write r BpsTotal h = omega arith
applies_waits b Write r BpsRead h = absurd (cc)
applies_waits b Write r BpsWrite h = omega arith
applies_waits b Write r IopsTotal h = omega arith
applies_waits b Write r IopsRead h = absurd (cc)
applies_waits b Write r IopsWrite h = omega arith

pub max_one : (m n : ℕ) → (max m n ≡ m) ⊎ (max m n ≡ n)
max_one m n = grind arith

-- one of the limits that apply to a direction asks for the greatest wait
pub one_waits : (b : Budget) (d : Dir) (r : ℕ) → (dim : Dim) × IsTrue (applies dim d) × (wait_of (bucket_in b dim) r ≡ wait_for b d r)
one_waits b Read r = go (max_one (max total own) (max total_ops own_ops)) (max_one total own) (max_one total_ops own_ops)
  where
    total : ℕ
    total = wait_of b.bytes.total r

    own : ℕ
    own = wait_of b.bytes.read r

    total_ops : ℕ
    total_ops = wait_of b.ops.total r

    own_ops : ℕ
    own_ops = wait_of b.ops.read r

    most : ℕ
    most = max (max total own) (max total_ops own_ops)

    go : (most ≡ max total own) ⊎ (most ≡ max total_ops own_ops) → (max total own ≡ total) ⊎ (max total own ≡ own) →
        (max total_ops own_ops ≡ total_ops) ⊎ (max total_ops own_ops ≡ own_ops) → (dim : Dim) × IsTrue (applies dim Read) × (wait_of (bucket_in b dim) r ≡ most)
    go (inl e) (inl f) h = (BpsTotal, refl, sym (e ∙ f))
    go (inl e) (inr f) h = (BpsRead, refl, sym (e ∙ f))
    go (inr e) f (inl h) = (IopsTotal, refl, sym (e ∙ h))
    go (inr e) f (inr h) = (IopsRead, refl, sym (e ∙ h))
one_waits b Write r = go (max_one (max total own) (max total_ops own_ops)) (max_one total own) (max_one total_ops own_ops)
  where
    total : ℕ
    total = wait_of b.bytes.total r

    own : ℕ
    own = wait_of b.bytes.write r

    total_ops : ℕ
    total_ops = wait_of b.ops.total r

    own_ops : ℕ
    own_ops = wait_of b.ops.write r

    most : ℕ
    most = max (max total own) (max total_ops own_ops)

    go : (most ≡ max total own) ⊎ (most ≡ max total_ops own_ops) → (max total own ≡ total) ⊎ (max total own ≡ own) →
        (max total_ops own_ops ≡ total_ops) ⊎ (max total_ops own_ops ≡ own_ops) → (dim : Dim) × IsTrue (applies dim Write) × (wait_of (bucket_in b dim) r ≡ most)
    go (inl e) (inl f) h = (BpsTotal, refl, sym (e ∙ f))
    go (inl e) (inr f) h = (BpsWrite, refl, sym (e ∙ f))
    go (inr e) f (inl h) = (IopsTotal, refl, sym (e ∙ h))
    go (inr e) f (inr h) = (IopsWrite, refl, sym (e ∙ h))

pub keeps_charged : (b : Budget) (d : Dir) (n r : ℕ) (key : Key) (xs : List Admission) → b.reading ≤ r → wait_for b d r ≡ 0 →
    Keeps (level_of b key) b.reading xs →
    Keeps (level_of (charged b d n r) key) r (cond (applies key.dim d) (xs ++ record { reading = r; units = units_for b key.dim n } ∷ []) xs)
keeps_charged b d n r key xs later none keeps = rw (charged_level b d n r key) (go (applies key.dim d) refl)
  where
    go : (z : Bool) → applies key.dim d ≡ z →
        Keeps (cond z (level_added (level_of b key) r (units_for b key.dim n)) (level_of b key)) r
        (cond z (xs ++ record { reading = r; units = units_for b key.dim n } ∷ []) xs)
    go true e = keeps_more (level_of b key) b.reading xs r _ later (goes_at e) keeps
      where
        goes_at : applies key.dim d ≡ true → wait_at (level_of b key) r ≡ 0
        goes_at e = level_waits (bucket_in b key.dim) key.which r (omega (arith, applies_waits b d r key.dim e))
    go false e = keeps_later (level_of b key) b.reading xs r later keeps

-- each answer keeps what a level holds
pub answer_keeps : (v : GroupValue) (op : GroupOp) (reply : GroupReply) (key : Key) (xs : List Admission) → May v op reply →
    Keeps (level_of v.budget key) v.budget.reading xs →
    Keeps (level_of (after v op reply).budget key) (after v op reply).budget.reading (admissions_counted key.dim v op reply xs)
answer_keeps v (Admit t now) Go key xs may keeps = go (ticket_at v.waiting t) may
  where
    go : (o : Option Queued) → MayAdmit v now o Go → Keeps (level_of (ticket_passed v o now).budget key) (ticket_passed v o now).budget.reading (counted_go key.dim v o now xs)
    go None f = absurd f
    go (Some w) f = keeps_charged v.budget w.dir w.bytes (reading_at v.budget now) key xs (omega arith) f.1 keeps
answer_keeps v (SetTo l) IsSet key xs may keeps = keeps_opened l key.dim key.which
answer_keeps v (Queue m d n) (Ticket t) key xs may keeps = keeps
answer_keeps v (Withdraw t) Withdrawn key xs may keeps = keeps
answer_keeps v _ _ key xs may keeps = keeps

-- the rest of a history, from what the answer to its first operation leaves
pub stands_rest : (v : GroupValue) (c : Call GroupOp GroupReply) (cs : List (Call GroupOp GroupReply)) (w : GroupValue)
    → StandsFor lawful_call v (c ∷ cs) w → StandsFor lawful_call (after v c.op c.reply) cs w
stands_rest v c cs w stands = subst (λ (x : GroupValue). StandsFor lawful_call x cs w) stands.1.1.1 stands.2

-- every history keeps what a level holds
pub run_keeps : (v : GroupValue) (cs : List (Call GroupOp GroupReply)) (w : GroupValue) (key : Key) (xs : List Admission)
    → StandsFor lawful_call v cs w → Keeps (level_of v.budget key) v.budget.reading xs
    → Keeps (level_of w.budget key) w.budget.reading (admissions key.dim v cs xs)
run_keeps v [] w key xs stands keeps =
    subst (λ (x : GroupValue). Keeps (level_of x.budget key) x.budget.reading xs) stands keeps
run_keeps v (c ∷ cs) w key xs stands keeps =
    run_keeps (after v c.op c.reply) cs w key (admissions_counted key.dim v c.op c.reply xs) (stands_rest v c cs w stands)
    (answer_keeps v c.op c.reply key xs stands.1.1.0 keeps)

pub fresh_keeps : (cs : List (Call GroupOp GroupReply)) (v : GroupValue) (key : Key) → StandsForFresh cs v
    → Keeps (level_of v.budget key) v.budget.reading (admissions key.dim fresh cs [])
fresh_keeps cs v key stands = run_keeps fresh cs v key [] stands (keeps_opened unlimited key.dim key.which)

-- a level has the rate and the bucket of this pair, or is no limit where there is no pair
pub record Counts (b : LevelValue) (x : Limit) (which : Which) : Type 0 where
  pub rate_is : b.rate ≡ cond (has_pair x which) (rate_of x which) 0
  pub bucket_is : IsTrue (has_pair x which) → b.bucket ≡ capacity x which
  pub some : IsTrue (has_pair x which) → 0 < rate_of x which

pub counts_rate : (b : LevelValue) (x : Limit) (which : Which) → Counts b x which → IsTrue (has_pair x which) →
    b.rate ≡ rate_of x which
counts_rate b x which counts h = rw h at counts.rate_is

pub counts_some : (b : LevelValue) (x : Limit) (which : Which) → Counts b x which → IsTrue (has_pair x which) →
    b.rate ≢ 0
counts_some b x which counts h = λ e. absurd (omega (arith, counts.some h, counts_rate b x which counts h, e))

pub bucket_counts : (x : Limit) (which : Which) → IsGood x → Counts (level_in (bucket_for x) which) x which
bucket_counts x First good = record {
  rate_is = rate (x.avg == 0) refl;
  bucket_is = λ _. refl;
  some = some (x.avg == 0) refl;
}
  where
    rate : (z : Bool) → (x.avg == 0) ≡ z → x.avg ≡ cond (not z) x.avg 0
    rate true e = grind (arith, nat_tests)
    rate false e = refl

    some : (z : Bool) → (x.avg == 0) ≡ z → IsTrue (not z) → 0 < x.avg
    some true e h = absurd (cc)
    some false e h = grind (arith, nat_tests)
bucket_counts x Second good = record {
  rate_is = rate (x.avg == 0) (nat_lt 1 x.burst_length) refl refl;
  bucket_is = bucket (x.avg == 0) (nat_lt 1 x.burst_length);
  some = some (x.avg == 0) (nat_lt 1 x.burst_length) refl;
}
  where
    burst : Bool → Option Burst
    burst y = cond y (Some (record { rate = x.max; bucket = x.max * 10 ^ 8 })) None

    rate : (z y : Bool) → (x.avg == 0) ≡ z → nat_lt 1 x.burst_length ≡ y →
        (burst_level (burst y)).rate ≡ cond (not z && y) x.max 0
    rate true true e f =
        let more : 0 < x.avg = good.has_avg (good.has_max (grind (arith, nat_tests))) in
        absurd (grind (arith, nat_tests))
    rate true false e f = refl
    rate false true e f = refl
    rate false false e f = refl

    bucket : (z y : Bool) → IsTrue (not z && y) → (burst_level (burst y)).bucket ≡ x.max * 10 ^ 8
    bucket false true h = refl
    bucket false false h = absurd (cc)
    bucket true y h = absurd (cc)

    some : (z y : Bool) → nat_lt 1 x.burst_length ≡ y → IsTrue (not z && y) → 0 < x.max
    some false true f h = good.has_max (grind (arith, nat_tests))
    some false false f h = absurd (cc)
    some true y f h = absurd (cc)

pub opened_counts : (l : Limits) (dim : Dim) (which : Which) → first_broken l ≡ None →
    Counts (level_in (bucket_in (budget_for l) dim) which) (limit_of l dim) which
opened_counts l BpsTotal which none = bucket_counts l.bps_total which (good l BpsTotal none)
opened_counts l BpsRead which none = bucket_counts l.bps_read which (good l BpsRead none)
opened_counts l BpsWrite which none = bucket_counts l.bps_write which (good l BpsWrite none)
opened_counts l IopsTotal which none = bucket_counts l.iops_total which (good l IopsTotal none)
opened_counts l IopsRead which none = bucket_counts l.iops_read which (good l IopsRead none)
opened_counts l IopsWrite which none = bucket_counts l.iops_write which (good l IopsWrite none)

pub charged_counts : (b : Budget) (d : Dir) (n r : ℕ) (key : Key) (x : Limit) → Counts (level_of b key) x key.which →
    Counts (level_of (charged b d n r) key) x key.which
charged_counts b d n r key x counts = rw (charged_level b d n r key) (go (applies key.dim d))
  where
    go : (z : Bool) → Counts (cond z (level_added (level_of b key) r (units_for b key.dim n)) (level_of b key)) x key.which
    go true = record {
      rate_is = (added_rate (level_of b key) r (units_for b key.dim n)).0 ∙ counts.rate_is;
      bucket_is = λ h. (added_rate (level_of b key) r (units_for b key.dim n)).1 ∙ counts.bucket_is h;
      some = counts.some;
    }
    go false = counts

-- each answer leaves the levels those of the limits that were set last
pub answer_counts : (v : GroupValue) (op : GroupOp) (reply : GroupReply) (l : Limits) (key : Key) → May v op reply →
    Counts (level_of v.budget key) (limit_of l key.dim) key.which →
    Counts (level_of (after v op reply).budget key) (limit_of (set_by l op reply) key.dim) key.which
answer_counts v (Admit t now) Go l key may counts = go (ticket_at v.waiting t)
  where
    go : (o : Option Queued) → Counts (level_of (ticket_passed v o now).budget key) (limit_of l key.dim) key.which
    go None = counts
    go (Some w) = charged_counts v.budget w.dir w.bytes (reading_at v.budget now) key _ counts
answer_counts v (SetTo m) IsSet l key may counts = opened_counts m key.dim key.which may.1
answer_counts v (Queue m d n) (Ticket t) l key may counts = counts
answer_counts v (Withdraw t) Withdrawn l key may counts = counts
answer_counts v _ _ l key may counts = counts

pub run_counts : (v : GroupValue) (cs : List (Call GroupOp GroupReply)) (w : GroupValue) (l : Limits) (key : Key)
    → StandsFor lawful_call v cs w → Counts (level_of v.budget key) (limit_of l key.dim) key.which
    → Counts (level_of w.budget key) (limit_of (last_set l cs) key.dim) key.which
run_counts v [] w l key stands counts =
    subst (λ (x : GroupValue). Counts (level_of x.budget key) (limit_of l key.dim) key.which) stands counts
run_counts v (c ∷ cs) w l key stands counts =
    run_counts (after v c.op c.reply) cs w (set_by l c.op c.reply) key (stands_rest v c cs w stands)
    (answer_counts v c.op c.reply l key stands.1.1.0 counts)

pub fresh_counts : (cs : List (Call GroupOp GroupReply)) (v : GroupValue) (key : Key) → StandsForFresh cs v
    → Counts (level_of v.budget key) (limit_of (last_set unlimited cs) key.dim) key.which
fresh_counts cs v key stands = run_counts fresh cs v unlimited key stands (opened_counts unlimited key.dim key.which refl)

-- and so is the size of operations
pub answer_size : (v : GroupValue) (op : GroupOp) (reply : GroupReply) (l : Limits) → v.budget.iops_size ≡ l.iops_size →
    (after v op reply).budget.iops_size ≡ (set_by l op reply).iops_size
answer_size v (Admit t now) Go l e = go (ticket_at v.waiting t)
  where
    go : (o : Option Queued) → (ticket_passed v o now).budget.iops_size ≡ l.iops_size
    go None = e
    go (Some w) = e
answer_size v (SetTo m) IsSet l e = refl
answer_size v (Queue m d n) (Ticket t) l e = e
answer_size v (Withdraw t) Withdrawn l e = e
answer_size v _ _ l e = e

pub run_size : (v : GroupValue) (cs : List (Call GroupOp GroupReply)) (w : GroupValue) (l : Limits)
    → StandsFor lawful_call v cs w → v.budget.iops_size ≡ l.iops_size → w.budget.iops_size ≡ (last_set l cs).iops_size
run_size v [] w l stands e = ap (λ (x : GroupValue). x.budget.iops_size) (sym stands) ∙ e
run_size v (c ∷ cs) w l stands e =
    run_size (after v c.op c.reply) cs w (set_by l c.op c.reply) (stands_rest v c cs w stands) (answer_size v c.op c.reply l e)

-- a level that is a limit asks for what its admissions ask for, and any other for nothing
pub some_asks : (b : LevelValue) (reading : ℕ) (xs : List Admission) (r : ℕ) → reading ≤ r → Keeps b reading xs →
    b.rate ≢ 0 → wait_at b r ≡ div_ceil (owed b.rate xs r - b.bucket) b.rate
some_asks b reading xs r later keeps some = go (b.rate == 0) refl
  where
    now : max b.last r ≡ r
    now = omega (arith, keeps.last)

    go : (z : Bool) → (b.rate == 0) ≡ z →
        cond z 0 (div_ceil (level_at b (max b.last r) - b.bucket) b.rate) ≡ div_ceil (owed b.rate xs r - b.bucket) b.rate
    go true e = absurd (some (grind (arith, nat_tests)))
    go false e = rw (now, (keeps.is_owed some).owes r (omega (arith, keeps.last))) refl

pub none_asks : (b : LevelValue) (r : ℕ) → b.rate ≡ 0 → wait_at b r ≡ 0
none_asks b r none = go (b.rate == 0) refl
  where
    go : (z : Bool) → (b.rate == 0) ≡ z → cond z 0 (div_ceil (level_at b (effective b r) - b.bucket) b.rate) ≡ 0
    go true e = refl
    go false e = absurd (grind (arith, nat_tests))

pub pair_is : (b : LevelValue) (x : Limit) (which : Which) (reading : ℕ) (xs : List Admission) (r : ℕ) → reading ≤ r →
    Keeps b reading xs → Counts b x which → wait_at b r ≡ pair_asks x which xs r
pair_is b x which reading xs r later keeps counts = go (has_pair x which) refl
  where
    go : (z : Bool) → has_pair x which ≡ z →
        wait_at b r ≡ cond z (div_ceil (owed (rate_of x which) xs r - capacity x which) (rate_of x which)) 0
    go true e =
        rw (← counts_rate b x which counts e, ← counts.bucket_is e)
        (some_asks b reading xs r later keeps (counts_some b x which counts e))
    go false e = none_asks b r (rw e at counts.rate_is)

-- a level that asks for no wait is owed at most its bucket
pub goes : (b : LevelValue) (reading : ℕ) (xs : List Admission) (r : ℕ) → reading ≤ r → Keeps b reading xs → wait_at b r ≡ 0 → b.rate ≢ 0 →
    owed b.rate xs r ≤ b.bucket
goes b reading xs r later keeps none some =
    let now : max b.last r ≡ r = omega (arith, keeps.last) in
    let within : level_at b (max b.last r) ≤ b.bucket = below_bucket b r some none in
    rw (← (keeps.is_owed some).owes r (omega (arith, keeps.last))) (rw now at within)

pub pair_goes : (b : LevelValue) (x : Limit) (which : Which) (reading : ℕ) (xs : List Admission) (r : ℕ) → reading ≤ r →
    Keeps b reading xs → Counts b x which → wait_at b r ≡ 0 → IsTrue (has_pair x which) → owed (rate_of x which) xs r ≤ capacity x which
pair_goes b x which reading xs r later keeps counts none h =
    rw (← counts_rate b x which counts h, ← counts.bucket_is h)
    (goes b reading xs r later keeps none (counts_some b x which counts h))

-- what a group has under these limits, pair by pair
pub record Under (b : Budget) (l : Limits) (lists : Dim → List Admission) : Type 0 where
  pub keeps : (key : Key) → Keeps (level_of b key) b.reading (lists key.dim)
  pub counts : (key : Key) → Counts (level_of b key) (limit_of l key.dim) key.which

pub limit_is : (b : Budget) (l : Limits) (lists : Dim → List Admission) (r : ℕ) (dim : Dim) → b.reading ≤ r →
    Under b l lists → wait_of (bucket_in b dim) r ≡ limit_asks (limit_of l dim) (lists dim) r
limit_is b l lists r dim later under = rw (pair First, pair Second) refl
  where
    pair : (which : Which) →
        wait_at (level_in (bucket_in b dim) which) r ≡ pair_asks (limit_of l dim) which (lists dim) r
    pair which =
        pair_is _ _ which b.reading (lists dim) r later
        (under.keeps (record { dim = dim; which = which })) (under.counts (record { dim = dim; which = which }))

-- a request goes or waits by the admissions
pub by_admissions : (v : GroupValue) (l : Limits) (lists : Dim → List Admission) (now : ℕ) (w : Queued)
    (reply : GroupReply) → Under v.budget l lists → MayAdmit v now (Some w) reply → ByAdmissions l lists w.dir (reading_at v.budget now) reply
by_admissions v l lists now w Go under may = λ key h some.
    pair_goes (level_of v.budget key) (limit_of l key.dim) key.which v.budget.reading (lists key.dim)
    (reading_at v.budget now) (omega arith)
    (under.keeps key) (under.counts key)
    (level_waits (bucket_in v.budget key.dim) key.which _
    (omega (arith, applies_waits v.budget w.dir (reading_at v.budget now) key.dim h, may.1))) some
by_admissions v l lists now w (Wait ns) under may = (
  may.1,
  record {
    longest = λ dim h. rw (← limit_is v.budget l lists (reading_at v.budget now) dim (omega arith) under)
        (omega (arith, applies_waits v.budget w.dir (reading_at v.budget now) dim h, may.2));
    asked = go (one_waits v.budget w.dir (reading_at v.budget now));
  },
)
  where
    go : (dim : Dim) × IsTrue (applies dim w.dir) × (wait_of (bucket_in v.budget dim) (reading_at v.budget now) ≡ wait_for v.budget w.dir (reading_at v.budget now)) →
        (dim : Dim) × IsTrue (applies dim w.dir) × (limit_asks (limit_of l dim) (lists dim) (reading_at v.budget now) ≡ ns)
    go (dim, h, e) = (dim, h, sym (limit_is v.budget l lists (reading_at v.budget now) dim (omega arith) under) ∙ (e ∙ sym may.2))
by_admissions v l lists now w _ under may = tt

pub greatest_reading-append : (xs : List Admission) (a : Admission) → greatest_reading (xs ++ a ∷ []) ≡ max (greatest_reading xs) a.reading
greatest_reading-append [] a = omega arith
greatest_reading-append (x ∷ xs) a = omega (arith, greatest_reading-append xs a)

-- each answer keeps the greatest reading of a request that went
pub answer_reading : (v : GroupValue) (op : GroupOp) (reply : GroupReply) (xs : List Admission) → v.budget.reading ≡ greatest_reading xs →
    (after v op reply).budget.reading ≡ greatest_reading (admissions_counted BpsTotal v op reply xs)
answer_reading v (Admit t now) Go xs e = go (ticket_at v.waiting t)
  where
    go : (o : Option Queued) → (ticket_passed v o now).budget.reading ≡ greatest_reading (counted_go BpsTotal v o now xs)
    go None = e
    go (Some w) = rw (greatest_reading-append xs) (omega (arith, e))
answer_reading v (SetTo l) IsSet xs e = refl
answer_reading v (Queue m d n) (Ticket t) xs e = e
answer_reading v (Withdraw t) Withdrawn xs e = e
answer_reading v _ _ xs e = e

pub run_reading : (v : GroupValue) (cs : List (Call GroupOp GroupReply)) (w : GroupValue) (xs : List Admission)
    → StandsFor lawful_call v cs w → v.budget.reading ≡ greatest_reading xs
    → w.budget.reading ≡ greatest_reading (admissions BpsTotal v cs xs)
run_reading v [] w xs stands e = ap (λ (x : GroupValue). x.budget.reading) (sym stands) ∙ e
run_reading v (c ∷ cs) w xs stands e =
    run_reading (after v c.op c.reply) cs w (admissions_counted BpsTotal v c.op c.reply xs) (stands_rest v c cs w stands)
    (answer_reading v c.op c.reply xs e)
