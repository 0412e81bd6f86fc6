-- A write failed.
use Rattle.std.proofs.Common.{true≢false, sym}
use Rattle.qs_handshake_phase.proofs.Turning.{breaks_fields}
use Rattle.qs_handshake_phase.proofs.phase.HandshakePhase.write_out.Goals as goal

pub returns-in-Failed : goal.returns-in-Failed
returns-in-Failed g c = record {
  writes = λ book. breaks_fields g.W.Wire.left g.W.Wire.sent g.W.Wire.read_faults g.W.Wire.write_faults g.W.Wire.waits book c.args.self.now
      c.self.inside.reader c.self.inside.over c.self.inside.stream c.write-sending.new.self c.self.view_is c.requires.here
      (λ broken. true≢false (sym (c.if-is_broken.ensures.1 broken)))
      c.in-Failed.ensures.writes c.write-sending.result c.in-Failed.is;
}
