-- `row`: the lines of a grid whose cells are one after another: each line, a change of one cell, and equal sizes (`GridLemmas`); the blanks
-- that are missing after them (`Blanks`).
use Rattle.cell.specs.{arith}
use Rattle.cell.proofs.GridLemmas.{HasLine-from_length, EachCell-rows, line_of-rows}
use Rattle.cell.proofs.Blanks.{lent_line}
use Rattle.cell.proofs.grid.Grid.row.Goals as goal

pub overflow_mul-y : goal.overflow_mul-y
overflow_mul-y g c = let line = HasLine-from_length c.self.invariant.all c.self.view_is c.requires in omega (arith, line.end, line.few)

pub slice_bounds-result-end : goal.slice_bounds-result-end
slice_bounds-result-end g c = let line = HasLine-from_length c.self.invariant.all c.self.view_is c.requires in let some = c.self.invariant.some (omega (arith, line.below)) in search (arith, some)

pub returns-clause-row : goal.returns-clause-row
returns-clause-row g c = let line = HasLine-from_length c.self.invariant.all c.self.view_is c.requires in grind (arith, lent_line c.args.y c.self.invariant line.below, line_of-rows)

pub returns-clause-cells : goal.returns-clause-cells
returns-clause-cells g c = grind (arith, EachCell-rows _ _ _ c.self.invariant.all)
