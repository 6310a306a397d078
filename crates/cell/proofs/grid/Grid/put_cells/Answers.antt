-- `put_cells`: the lines of a grid whose cells are one after another: each line, a change of one cell, and equal sizes (`GridLemmas`); a
-- piece of a line of a grid that is written at once (`PieceWrites`); the blanks that are missing after a grid's cells (`Blanks`).
use Rattle.cell.specs.{arith}
use Rattle.cell.proofs.GridLemmas.{EachCell-rows}
use Rattle.cell.proofs.PieceWrites.{PieceFits-from, shown-piece, HasSize-same}
use Rattle.cell.proofs.Blanks.{IsGrid-piece, blanks-piece}
use Rattle.cell.proofs.grid.Grid.put_cells.Goals as goal

pub reach-line-requires-clause-line : goal.reach-line-requires-clause-line
reach-line-requires-clause-line g c = (PieceFits-from c.self.invariant.all c.self.view_is c.requires.line c.requires.columns).below

pub overflow_add-line : goal.overflow_add-line
overflow_add-line g c = let piece = PieceFits-from c.self.invariant.all c.self.view_is c.requires.line c.requires.columns in
    omega (arith, c.reach-line.ensures.line, piece.end, piece.few)

pub put_piece-requires : goal.put_piece-requires
put_piece-requires g c = let piece = PieceFits-from c.self.invariant.all c.self.view_is c.requires.line c.requires.columns in
    omega (arith, c.reach-line.ensures.line, c.reach-line.ensures.reached.there, piece.fits)

pub invariant_of-self : goal.invariant_of-self
invariant_of-self g c = let a = c.args in let piece = PieceFits-from c.self.invariant.all c.self.view_is c.requires.line c.requires.columns in
    rw (c.put_piece.ensures.cells, c.reach-line.ensures.line)
    (IsGrid-piece a.y a.x c.reach-line.ensures.grid c.reach-line.ensures.reached piece.below c.put_piece.ensures.room a.cells.now piece.fits c.requires.cells)

pub returns-clause-shown : goal.returns-clause-shown
returns-clause-shown g c = let a = c.args in let piece = PieceFits-from c.self.invariant.all c.self.view_is c.requires.line c.requires.columns in
    rw (
      ← c.self.view_is,
      c.put_piece.ensures.cells,
      c.reach-line.ensures.line,
      blanks-piece a.y a.x c.reach-line.ensures.grid c.reach-line.ensures.reached piece.below c.put_piece.ensures.room a.cells.now piece.fits,
    )
    (shown-piece g.T.Element.blank _ _ _ a.cells.now a.y a.x c.self.invariant.all piece.below piece.fits c.requires.cells)

pub returns-clause-size : goal.returns-clause-size
returns-clause-size g c = rw (← c.self.view_is) (λ lines columns size. HasSize-same c.self.invariant.all (invariant_of-self g c).all size)

pub returns-clause-cells : goal.returns-clause-cells
returns-clause-cells g c = λ _. EachCell-rows _ _ _ (invariant_of-self g c).all
