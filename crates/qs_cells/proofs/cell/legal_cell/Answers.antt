use Rattle.std.proofs.Common.{ap, sym, ◌∙◌, drop_of_length-le, List}
use Rattle.qs_cells.proofs.Histories.{all_fit, fits_iff, unfit}
use Rattle.qs_cells.specs.declared.cell.CellEntry.{CellEntry}
use Rattle.qs_cells.proofs.cell.legal_cell.Goals as goal

pub returns-then-not-agrees : goal.returns-then-not-agrees
returns-then-not-agrees c =
    fits_iff c.args.first c.args.list.now _
    (sym (unfit c.loop-entry.value c.loop-entry.entry-index _ c.args.list.now c.loop-entry-test.true (sym c.agrees.ensures ∙ c.if-not-agrees.true))
    ∙ c.loop-entry.invariant)

pub returns : goal.returns
returns c =
    fits_iff c.args.first c.args.list.now _
    (sym (ap (λ (xs : List CellEntry). all_fit c.loop-entry.value xs) (drop_of_length-le c.args.list.now c.loop-entry-test.false))
    ∙ c.loop-entry.invariant)
