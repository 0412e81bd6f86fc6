-- The input ended, or the wire failed.
use Rattle.std.proofs.Common.{◌≡◌, sym, ap, subst}
use Rattle.std.specs.Prelude.{Option, None}
use Rattle.qs_nbd_handshake.specs.Phases.{CanFeed}
use Rattle.qs_handshake_phase.specs.declared.end.HandshakeEnd.{HandshakeEnd}
use Rattle.qs_handshake_phase.specs.Scenes.{FeedsOn}
use Rattle.qs_handshake_phase.proofs.Hearing.{breaks_fields, going_from, stops_fields}
use Rattle.qs_handshake_phase.proofs.phase.HandshakePhase.fetch.Goals as goal

pub returns-in-Ended-clause-greets : goal.returns-in-Ended-clause-greets
returns-in-Ended-clause-greets g c = λ book.
    stops_fields g.W.Wire.left g.W.Wire.sent g.W.Wire.read_faults g.W.Wire.write_faults g.W.Wire.waits book _ c.self.inside.reader
    c.self.inside.over c.self.inside.stream c.read-tried.new.self c.at_end.result c.self.view_is
    (going_from _ _ _ c.self.view_is c.requires.going) c.self.invariant c.at_end.ensures c.in-Ended.ensures.reads

pub returns-in-Failed-clause-greets : goal.returns-in-Failed-clause-greets
returns-in-Failed-clause-greets g c = λ book.
    breaks_fields g.W.Wire.left g.W.Wire.sent g.W.Wire.read_faults g.W.Wire.write_faults g.W.Wire.waits book _ c.self.inside.reader
    c.self.inside.over c.self.inside.stream c.read-tried.new.self c.self.view_is
    (going_from _ _ _ c.self.view_is c.requires.going) c.in-Failed.ensures.reads
