-- A line is a rectangle.
use Rattle.grids.specs.{ap, ◌∙◌, put, windows}
use Rattle.grids.proofs.Writes.{one_line}
use Rattle.grids.proofs.table.Grids.fill.Goals as goal

pub returns-clause-written : goal.returns-clause-written
returns-clause-written c = let a = c.args in c.fill_rectangle.ensures.written ∙ ap (put (windows a.self.now) a.win.0) (one_line a.y a.left a.right a.cell)
