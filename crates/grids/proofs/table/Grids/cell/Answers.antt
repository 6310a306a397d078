-- The cell is that of the row, which a window shows from its grid.
use Rattle.grids.specs.{◌∙◌, get_or_read, blank, windows}
use Rattle.grids.proofs.Showing.{line-has}
use Rattle.grids.proofs.table.Grids.cell.Goals as goal

pub bounds-row-from : goal.bounds-row-from
bounds-row-from c =
    let a = c.args in
    let line = line-has (windows a.self.now).window a.win.0 a.y a.x c.requires c.row.result.now c.row.ensures.row in
    rw c.from.ensures line.0

pub returns-clause-cell : goal.returns-clause-cell
returns-clause-cell c =
    let a = c.args in
    let line = line-has (windows a.self.now).window a.win.0 a.y a.x c.requires c.row.result.now c.row.ensures.row in
    let read = get_or_read c.row.result.now c.from.result _ (rw c.from.ensures line.0) c.index-row-from.is blank in
    read ∙ rw c.from.ensures (line.1 blank)
