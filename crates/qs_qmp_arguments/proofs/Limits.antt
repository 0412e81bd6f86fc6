-- The limits that each of its readings gives.
use Rattle.std.proofs.Common.{◌≡◌, ℕ, Some, refl}
use Rattle.std.specs.Prelude.{codes}
use Rattle.serde_json.specs.Data.{Data}
use Rattle.serde_json.specs.Find.{get}
use Rattle.qs_part.specs.declared.limits.Limit.{Limit}
use Rattle.qs_qmp_arguments.specs.Limiting.{limit_in, limits_in, whole_or}

pub limits_given : (d : Data) (bps_total bps_read bps_write iops_total iops_read iops_write : Limit) (iops_size : ℕ) →
    limit_in (codes "bps-total") (codes "bps-total-max") (codes "bps-total-max-length") d ≡ Some bps_total →
    limit_in (codes "bps-read") (codes "bps-read-max") (codes "bps-read-max-length") d ≡ Some bps_read →
    limit_in (codes "bps-write") (codes "bps-write-max") (codes "bps-write-max-length") d ≡ Some bps_write →
    limit_in (codes "iops-total") (codes "iops-total-max") (codes "iops-total-max-length") d ≡ Some iops_total →
    limit_in (codes "iops-read") (codes "iops-read-max") (codes "iops-read-max-length") d ≡ Some iops_read →
    limit_in (codes "iops-write") (codes "iops-write-max") (codes "iops-write-max-length") d ≡ Some iops_write →
    whole_or 0 (get (codes "iops-size") d) ≡ Some iops_size →
    Some (record {
      bps_total = bps_total;
      bps_read = bps_read;
      bps_write = bps_write;
      iops_total = iops_total;
      iops_read = iops_read;
      iops_write = iops_write;
      iops_size = iops_size;
    }) ≡ limits_in d
unfolding limits_in
limits_given d a b c e f g n h1 h2 h3 h4 h5 h6 h7 = rw (h1, h2, h3, h4, h5, h6, h7) refl
