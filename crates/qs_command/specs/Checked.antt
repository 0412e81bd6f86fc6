-- Checked limits are seen as the limits themselves.
use Rattle.std.specs.Prelude.{◌≡◌, None, refl}
use Rattle.qs_part.specs.declared.limits.Limits.{Limits}
use Rattle.qs_part.specs.Limits.{first_broken}
use Rattle.qs_command.specs.declared.checked.CheckedLimits.TheInside.{Inside}

abbrev pub checked : Limits → Inside
checked limits = record { limits = limits }

pub checked_again : (c : Inside) → first_broken c.limits ≡ None → checked c.limits ≡ c
checked_again c is = refl
