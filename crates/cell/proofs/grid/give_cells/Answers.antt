-- `give_cells`: a piece of a line of a grid that is written at once (`PieceWrites`); the blanks that are missing after a grid's cells (`Blanks`).
use Rattle.cell.specs.{arith, map, length-map, blank, given_cell}
use Rattle.cell.proofs.GridLemmas.{EachCell-rows}
use Rattle.cell.proofs.PieceWrites.{PieceFits-from, shown-piece, splice-made, HasSize-same}
use Rattle.cell.proofs.Blanks.{IsGrid-piece, blanks-piece}
use Rattle.cell.proofs.grid.give_cells.Goals as goal

pub reach-line-requires-clause-line : goal.reach-line-requires-clause-line
reach-line-requires-clause-line c = (PieceFits-from c.grid.invariant.all c.grid.view_is c.requires.line c.requires.columns).below

pub overflow_add-line : goal.overflow_add-line
overflow_add-line c = let piece = PieceFits-from c.grid.invariant.all c.grid.view_is c.requires.line c.requires.columns in
    omega (arith, c.reach-line.ensures.line, piece.end, piece.few)

pub give_piece-requires-clause-there : goal.give_piece-requires-clause-there
give_piece-requires-clause-there c = let piece = PieceFits-from c.grid.invariant.all c.grid.view_is c.requires.line c.requires.columns in
    omega (arith, c.reach-line.ensures.line, c.reach-line.ensures.reached.there, piece.fits)

pub invariant_of-grid : goal.invariant_of-grid
invariant_of-grid c = let a = c.args in let piece = PieceFits-from c.grid.invariant.all c.grid.view_is c.requires.line c.requires.columns in
    rw (c.give_piece.ensures.cells, c.reach-line.ensures.line, splice-made given_cell _ a.numbers.now _)
    (IsGrid-piece a.y a.x c.reach-line.ensures.grid c.reach-line.ensures.reached piece.below c.give_piece.ensures.room
    (map given_cell a.numbers.now) (rw length-map piece.fits) c.give_piece.ensures.sound)

pub returns-clause-shown : goal.returns-clause-shown
returns-clause-shown c = let a = c.args in let piece = PieceFits-from c.grid.invariant.all c.grid.view_is c.requires.line c.requires.columns in
    rw (
      ← c.grid.view_is,
      c.give_piece.ensures.cells,
      c.reach-line.ensures.line,
      splice-made given_cell _ a.numbers.now _,
      blanks-piece a.y a.x c.reach-line.ensures.grid c.reach-line.ensures.reached piece.below c.give_piece.ensures.room
          (map given_cell a.numbers.now) (rw length-map piece.fits),
      ← length-map a.numbers.now given_cell,
    )
    (shown-piece blank _ _ _ (map given_cell a.numbers.now) a.y a.x c.grid.invariant.all piece.below (rw length-map piece.fits) c.give_piece.ensures.sound)

pub returns-clause-size : goal.returns-clause-size
returns-clause-size c = rw (← c.grid.view_is) (λ lines columns size. HasSize-same c.grid.invariant.all (invariant_of-grid c).all size)

pub returns-clause-cells : goal.returns-clause-cells
returns-clause-cells c = λ _. EachCell-rows _ _ _ (invariant_of-grid c).all
