-- A write failed.
use Rattle.std.proofs.Common.{true≢false, sym, ◌∙◌}
use Rattle.qs_transmission_phase.proofs.Reading.{from_fields, going_from, there_from}
use Rattle.qs_transmission_phase.proofs.Turning.{write_breaks, writes_failed}
use Rattle.qs_transmission_phase.proofs.phase.TransmissionPhase.write_out.Goals as goal

pub returns-in-Failed-clause-writes : goal.returns-in-Failed-clause-writes
returns-in-Failed-clause-writes g c = λ book.
    writes_failed _ _ _ c.in-Failed.is
    (from_fields g.W.Wire.left g.W.Wire.sent g.W.Wire.read_faults g.W.Wire.write_faults g.W.Wire.waits book _ _ _ c.self.view_is
    (write_breaks _ _ _ book c.close.new.ended c.close.new.requests
    (λ broken. true≢false (sym (c.is_broken.ensures.1 (going_from _ _ _ (sym c.self.view_is) broken)) ∙ c.if-is_broken.false))
    (there_from _ _ c.self.view_is c.requires.there) c.in-Failed.ensures.writes c.close.ensures.ended c.close.ensures.left))
