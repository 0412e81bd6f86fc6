use Rattle.std.proofs.Common.{◌≡◌, sym, ap, ◌∙◌, subst}
use Rattle.std.specs.declared.snapshot.Snapshot.{Snapshot}
use Rattle.qs_turn.specs.declared.view.View.{View}
use Rattle.qs_turn.specs.Names.{Name, Known}
use Rattle.qs_turn.specs.Words.{opening, seen, own, out, is_first}
use Rattle.qs_turn.proofs.Ends.{closed, closed_runs}
use Rattle.qs_turn.proofs.turn.Turn+P.close.Goals as goal

pub unreachable-requires : goal.unreachable-requires
unreachable-requires g c =
    let end = closed _ _ _ _ _ _ _ c.close_with-closed.ensures.values.2 c.take-part.ensures.value (ap is_first c.pass.view_is ∙ c.requires.first.0) c.pass.invariant.1 (ap out c.pass.view_is ∙ c.requires.first.1) in
    c.in_default.not-Some end.0 end.1

pub returns-clause-part : goal.returns-clause-part
returns-clause-part g c =
    let end = closed _ _ _ _ _ _ _ c.close_with-closed.ensures.values.2 c.take-part.ensures.value (ap is_first c.pass.view_is ∙ c.requires.first.0) c.pass.invariant.1 (ap out c.pass.view_is ∙ c.requires.first.1) in
    closed_runs _ _ (opening c.args.self) (record { turn = c.pass.inside.seat.table_id; view = c.pass.inside.seat.me.0 }) c.args.pass end.0 c.in-Some.part
    (ap (λ (t : Name (Snapshot g.row.P.Denot)). t.key.value) c.self.view_is) c.pass.view_is (sym end.1 ∙ c.in-Some.is) end.2

pub returns-clause-own : goal.returns-clause-own
returns-clause-own g c =
    let end = closed _ _ _ _ _ _ _ c.close_with-closed.ensures.values.2 c.take-part.ensures.value (ap is_first c.pass.view_is ∙ c.requires.first.0) c.pass.invariant.1 (ap out c.pass.view_is ∙ c.requires.first.1) in
    subst (λ (k : Known (View g.row.P.Denot g.row.P-Op.Denot g.row.P-Reply.Denot)). own k ≡ seen k) c.pass.view_is end.3
