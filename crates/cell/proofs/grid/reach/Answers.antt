-- `reach`: the cells that a grid has, with the blanks that are missing after them (`Blanks`).
use Rattle.std.specs.Prelude.{◌*◌}
use Rattle.cell.specs.{arith}
use Rattle.cell.proofs.GridLemmas.{line_end}
use Rattle.cell.proofs.Blanks.{IsGrid-with_blanks, length-with_blanks, same_blanks}
use Rattle.cell.proofs.grid.reach.Goals as goal

pub returns-then-len-lines-clause-grid : goal.returns-then-len-lines-clause-grid
returns-then-len-lines-clause-grid g c = rw c.add_blanks.ensures.cells (IsGrid-with_blanks c.min.result c.requires.grid (omega (arith, c.min.ensures)) c.add_blanks.ensures.room)

pub returns-then-len-lines-clause-reached : goal.returns-then-len-lines-clause-reached
returns-then-len-lines-clause-reached g c =
    let a = c.args in
    let end = line_end a.lines a.columns a.y c.requires.line in
    let long = length-with_blanks g.T.Element.blank c.min.result a.cells.now.items in
    let most = c.max.ensures in
    let least = c.min.ensures in
    rw c.add_blanks.ensures.cells (record {
      same = same_blanks g.T.Element.blank (a.lines * a.columns) c.min.result a.cells.now.items (omega arith);
      there = omega arith;
      above = λ missing. omega arith;
    })
