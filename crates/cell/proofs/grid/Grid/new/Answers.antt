-- `new`: the lines of a grid whose cells are one after another: each line, a change of one cell, and equal sizes (`GridLemmas`); the blanks
-- that are missing after them (`Blanks`).
use Rattle.std.specs.Prelude.{◌*◌}
use Rattle.cell.specs.{arith}
use Rattle.cell.proofs.GridLemmas.{rows-all_of}
use Rattle.cell.proofs.Blanks.{IsGrid-blank, blank_cells}
use Rattle.cell.proofs.grid.Grid.new.Goals as goal

pub invariant_of-result : goal.invariant_of-result
invariant_of-result g c = rw (c.add_blanks.ensures.cells, c.min.ensures, c.in_ok-cells.ensures.items)
    (IsGrid-blank g.T.Element.blank c.from-lines.result c.from-columns.result _ c.add_blanks.ensures.blank (rw c.from-lines.ensures c.requires.lines) (rw c.from-columns.ensures c.requires.columns)
    (omega (arith, c.in_ok-cells.ensures.capacity, c.add_blanks.ensures.room)))

pub returns : goal.returns
returns g c = rw (
  c.add_blanks.ensures.cells,
  c.min.ensures,
  c.in_ok-cells.ensures.items,
  blank_cells g.T.Element.blank c.from-columns.result (c.from-lines.result * c.from-columns.result),
  c.from-lines.ensures,
  c.from-columns.ensures,
) (rows-all_of g.T.Element.blank c.args.lines c.args.columns)
