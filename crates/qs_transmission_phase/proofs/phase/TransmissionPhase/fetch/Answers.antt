-- The input ended, or the wire failed.
use Rattle.qs_transmission_phase.proofs.Reading.{from_fields, going_from, there_from, read_breaks, read_stops}
use Rattle.qs_transmission_phase.proofs.phase.TransmissionPhase.fetch.Goals as goal

pub returns-in-Ended-clause-serves : goal.returns-in-Ended-clause-serves
returns-in-Ended-clause-serves g c = λ book.
    from_fields g.W.Wire.left g.W.Wire.sent g.W.Wire.read_faults g.W.Wire.write_faults g.W.Wire.waits book _ _ _ c.self.view_is
    (read_stops _ _ _ book c.at_end-end.result c.close.new.ended c.close.new.requests
    (going_from _ _ _ c.self.view_is c.requires.going) c.in-Ended.ensures.reads c.at_end-end.ensures
    c.close.ensures.ended c.close.ensures.left)

pub returns-in-Failed-clause-serves : goal.returns-in-Failed-clause-serves
returns-in-Failed-clause-serves g c = λ book.
    from_fields g.W.Wire.left g.W.Wire.sent g.W.Wire.read_faults g.W.Wire.write_faults g.W.Wire.waits book _ _ _ c.self.view_is
    (read_breaks _ _ _ book c.close-in-Failed.new.ended c.close-in-Failed.new.requests
    (going_from _ _ _ c.self.view_is c.requires.going)
    (there_from _ _ c.self.view_is c.requires.there) c.in-Failed.ensures.reads
    c.close-in-Failed.ensures.ended c.close-in-Failed.ensures.left)
