-- The limits of a throttle group as arguments (QAPI, "ThrottleLimits").
use Rattle.std.specs.Prelude.{ℕ, Bool, not, ◌&&◌, if◌then◌else◌, List, codes, Option, Some, None, is_some, Result, Ok, Err}
use Rattle.serde_json.specs.Data.{Data}
use Rattle.serde_json.specs.Find.{get, as_object}
use Rattle.qs_part.specs.declared.limits.Limit.{Limit}
use Rattle.qs_part.specs.declared.limits.Limits.{Limits}
use Rattle.qs_part.specs.declared.limits.Rule.{Rule}
use Rattle.qs_part.specs.Limits.{first_broken}
use Rattle.qs_qmp_arguments.specs.declared.keys.ArgumentKeys.TheVariants as keys
use Rattle.qs_qmp_arguments.specs.Problems.{Problem, generic}
use Rattle.qs_qmp_arguments.specs.Kinds.{whole_of}
use Rattle.qs_qmp_arguments.specs.Arguments.{is_key, keys_in, first_not, argument, or_invalid}

-- the next step, where this one found something
infixl 10 ◌>>=◌
abbrev pub ◌>>=◌ : {A B : Type 0} → Option A → (A → Option B) → Option B
(Some x) >>= f = f x
None >>= f = None

-- a whole number, or what stands for an absent one
abbrev pub whole_or : ℕ → Option Data → Option ℕ
whole_or default None = Some default
whole_or default (Some d) = whole_of d

unfoldable pub limit_in : List ℕ → List ℕ → List ℕ → Data → Option Limit
limit_in avg max burst_length d = do
  a ← whole_or 0 (get avg d)
  m ← whole_or 0 (get max d)
  b ← whole_or 1 (get burst_length d)
  Some (record { avg = a; max = m; burst_length = b })

unfoldable pub limits_in : Data → Option Limits
limits_in d = do
  bps_total ← limit_in (codes "bps-total") (codes "bps-total-max") (codes "bps-total-max-length") d
  bps_read ← limit_in (codes "bps-read") (codes "bps-read-max") (codes "bps-read-max-length") d
  bps_write ← limit_in (codes "bps-write") (codes "bps-write-max") (codes "bps-write-max-length") d
  iops_total ← limit_in (codes "iops-total") (codes "iops-total-max") (codes "iops-total-max-length") d
  iops_read ← limit_in (codes "iops-read") (codes "iops-read-max") (codes "iops-read-max-length") d
  iops_write ← limit_in (codes "iops-write") (codes "iops-write-max") (codes "iops-write-max-length") d
  iops_size ← whole_or 0 (get (codes "iops-size") d)
  Some (record {
    bps_total = bps_total;
    bps_read = bps_read;
    bps_write = bps_write;
    iops_total = iops_total;
    iops_read = iops_read;
    iops_write = iops_write;
    iops_size = iops_size;
  })

-- an object that has keys of limits alone
abbrev pub has_limit_keys : Data → Bool
has_limit_keys d = is_some (as_object d) && not (is_some (first_not (λ k. is_key keys.Limits k) (keys_in (Some d))))

abbrev pub limits_of : Data → Option Limits
limits_of d = if has_limit_keys d then limits_in d else None

abbrev pub no_limit : Limit
no_limit = record { avg = 0; max = 0; burst_length = 1 }

abbrev pub no_limits : Limits
no_limits = record {
  bps_total = no_limit;
  bps_read = no_limit;
  bps_write = no_limit;
  iops_total = no_limit;
  iops_read = no_limit;
  iops_write = no_limit;
  iops_size = 0;
}

abbrev pub limits_seen : Option Data → Result Limits Problem
limits_seen None = Ok no_limits
limits_seen (Some d) = or_invalid (codes "limits") (limits_of d)

abbrev pub limits_at : Option Data → Result Limits Problem
limits_at args = limits_seen (argument (codes "limits") args)

-- limits that break no rule
abbrev pub unbroken : Limits → Option Rule → Result Limits Problem
unbroken limits None = Ok limits
unbroken limits (Some rule) = Err (generic (codes "Invalid limits"))

abbrev pub limits_checked : Limits → Result Limits Problem
limits_checked limits = unbroken limits (first_broken limits)
