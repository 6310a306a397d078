use Rattle.cell.specs.{vec_capacity}
use Rattle.cell.proofs.Fills.{AreFilled}
use Rattle.cell.proofs.grid.fill_lines.Given as goal

abbrev pub invariant-loop-y : goal.invariant-loop-y
invariant-loop-y g l = AreFilled g.T.Element.Is g.T.Element.blank l.lines l.columns l.top l.bottom l.start l.end l.y l.cell l.fn.cells.items l.cells.items (vec_capacity l.cells)
