-- No byte was taken yet.
use Rattle.std.specs.Io.KnownBytes.{Keeps}
use Rattle.qs_sockets.proofs.socket.read_now.Given as goal

abbrev pub invariant-loop : goal.invariant-loop
invariant-loop g l = Keeps (g.R.Read.remaining l.fn.reader) (g.R.Read.remaining l.reader)
