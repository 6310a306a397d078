-- `fill_rectangle`: lines of which some places are filled (`Fills`), in a grid whose cells are one after another (`GridLemmas`).
use Rattle.std.specs.Prelude.{◌-◌}
use Rattle.cell.specs.{arith, length-replicate}
use Rattle.cell.proofs.GridLemmas.{EachCell-rows}
use Rattle.cell.proofs.PieceWrites.{HasSize-same}
use Rattle.cell.proofs.Fills.{PieceFits-filled}
use Rattle.cell.proofs.grid.Grid.fill_rectangle.Goals as goal

pub fill_lines-requires-clause-bottom : goal.fill_lines-requires-clause-bottom
fill_lines-requires-clause-bottom g c = (PieceFits-filled c.args.cell c.self.invariant.all c.self.view_is c.requires.bottom c.requires.ordered c.requires.columns).below

pub fill_lines-requires-clause-columns : goal.fill_lines-requires-clause-columns
fill_lines-requires-clause-columns g c =
    let piece = PieceFits-filled c.args.cell c.self.invariant.all c.self.view_is c.requires.bottom c.requires.ordered c.requires.columns in
    omega (arith, piece.fits, length-replicate (c.args.end - c.args.start) c.args.cell)

pub returns-clause-shown : goal.returns-clause-shown
returns-clause-shown g c = rw (← c.self.view_is) c.fill_lines.ensures.filled

pub returns-clause-size : goal.returns-clause-size
returns-clause-size g c = rw (← c.self.view_is) (λ lines columns size. HasSize-same c.self.invariant.all c.fill_lines.ensures.grid.all size)

pub returns-clause-cells : goal.returns-clause-cells
returns-clause-cells g c = λ _. EachCell-rows _ _ _ c.fill_lines.ensures.grid.all
