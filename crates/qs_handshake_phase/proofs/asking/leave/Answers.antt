-- The export was left.
use Rattle.std.proofs.Common.{ℕ, [], ◌∷◌, refl, sym, subst}
use Rattle.std.specs.Prelude.{Option, Some}
use Rattle.qs_part.specs.declared.graph.GraphOp.TheVariants.{Detach}
use Rattle.qs_handshake_phase.specs.Asks.{LeavesExport}
use Rattle.qs_handshake_phase.proofs.asking.leave.Goals as goal

pub returns-in-Some-clause-leaves : goal.returns-in-Some-clause-leaves
returns-in-Some-clause-leaves g c =
    subst (λ (o : Option ℕ). LeavesExport o (g.S.Station.book c.args.station.now) (g.S.Station.book c.session_call.new.self)) (sym c.in-Some.is) (record {
      calls = record { op = Detach c.in-Some.e; reply = c.session_call.result } ∷ [];
      left = refl;
      booked = c.session_call.ensures.booked;
    })
