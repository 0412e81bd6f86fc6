-- The tracker as a part of a turn.
use Rattle.qs_part.specs.declared.tracker.TrackerOp.{TrackerOp}
use Rattle.qs_tracker.specs.Table.{TrackerValue, Fits}

-- nothing is fixed about a tracker
abbrev pub tracker_fixed : TrackerValue → Unit {0}
tracker_fixed _ = tt

-- so which operations fit is the same for each
abbrev pub tracker_fits : Unit {0} → TrackerOp → Type 0
tracker_fits _ op = Fits op
