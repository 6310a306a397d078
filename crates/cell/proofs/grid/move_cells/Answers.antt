-- `move_cells`: cells copied within a grid (`Moves`).
use Rattle.cell.proofs.Moves.{IsGrid-moved}
use Rattle.cell.proofs.grid.move_cells.Goals as goal

pub returns-clause-grid : goal.returns-clause-grid
returns-clause-grid g c = let a = c.args in
    rw c.move_piece.ensures.cells (IsGrid-moved a.y a.from a.to a.n c.reach.ensures.grid c.reach.ensures.reached c.requires.line c.move_piece.ensures.room c.requires.from c.requires.to)
