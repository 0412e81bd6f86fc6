use Rattle.std.proofs.Common.{◌≡◌, drop}
use Rattle.qs_cells.proofs.Histories.{all_fit}
use Rattle.qs_cells.proofs.cell.legal_cell.Given as goal

abbrev pub invariant-loop-entry : goal.invariant-loop-entry
invariant-loop-entry l = all_fit l.value (drop l.entry-index l.list) ≡ all_fit l.fn.first l.list
