-- A link as a wire that reads once for each leave.
use Rattle.std.specs.Prelude.{ℕ, Bool, true}

-- the link, whether it may be read once more, and how many reads found no leave
pub record PatientValue (L : Type 0) : Type 0 where
  pub link : L
  pub may_read : Bool
  pub refused : ℕ

abbrev pub with_leave : {L : Type 0} → PatientValue L → PatientValue L
with_leave p = record p { may_read = true }
