-- `show_cells`: a piece of a line of a grid that is written at once (`PieceWrites`); the blanks that are missing after a grid's cells (`Blanks`).
use Rattle.cell.specs.{arith, map, length-map, blank, shown, shown_blank}
use Rattle.cell.proofs.PieceWrites.{PieceFits-from, shown-kept, shown-made, splice-made, HasSize-same, line_width}
use Rattle.cell.proofs.Blanks.{IsGrid-piece, blanks-piece}
use Rattle.cell.proofs.grid.show_cells.Goals as goal

pub reach-line-requires-clause-line : goal.reach-line-requires-clause-line
reach-line-requires-clause-line c = rw c.from-y.ensures (PieceFits-from c.picture-2.invariant.all c.picture-2.view_is c.requires.line c.requires.columns).below

pub show_piece-requires : goal.show_piece-requires
show_piece-requires c = let piece = PieceFits-from c.picture-2.invariant.all c.picture-2.view_is c.requires.line c.requires.columns in
    omega (arith, c.from-x.ensures, c.reach-line.ensures.line, c.reach-line.ensures.reached.there, piece.fits)

pub returns-then-are_shown-clause-shown : goal.returns-then-are_shown-clause-shown
returns-then-are_shown-clause-shown c =
    shown-kept (shown c.args.pairs.now) blank shown_blank c.args.picture.now c.args.cells.now c.args.y c.args.x (grind (arith, c.are_shown.ensures c.if-are_shown.true, c.row.ensures.row, c.from-y.ensures, c.from-x.ensures))

pub invariant_of-picture : goal.invariant_of-picture
invariant_of-picture c = let a = c.args in let piece = PieceFits-from c.picture-2.invariant.all c.picture-2.view_is c.requires.line c.requires.columns in
    rw (c.show_piece.ensures.cells, c.reach-line.ensures.line, splice-made (shown a.pairs.now) _ a.cells.now _)
    (IsGrid-piece c.from-y.result c.from-x.result c.reach-line.ensures.grid c.reach-line.ensures.reached (rw c.from-y.ensures piece.below) c.show_piece.ensures.room
    (map (shown a.pairs.now) a.cells.now) (rw (c.from-x.ensures, length-map) piece.fits) c.show_piece.ensures.sound)

pub returns-clause-shown : goal.returns-clause-shown
returns-clause-shown c = let a = c.args in let piece = PieceFits-from c.picture-2.invariant.all c.picture-2.view_is c.requires.line c.requires.columns in
    rw (
      ← c.picture-2.view_is,
      c.show_piece.ensures.cells,
      c.reach-line.ensures.line,
      splice-made (shown a.pairs.now) _ a.cells.now _,
      blanks-piece c.from-y.result c.from-x.result c.reach-line.ensures.grid c.reach-line.ensures.reached (rw c.from-y.ensures piece.below) c.show_piece.ensures.room
          (map (shown a.pairs.now) a.cells.now) (rw (c.from-x.ensures, length-map) piece.fits),
      ← splice-made (shown a.pairs.now) _ a.cells.now _,
      c.from-y.ensures,
      c.from-x.ensures,
    )
    (shown-made (shown a.pairs.now) blank shown_blank _ _ _ a.cells.now a.y a.x c.picture-2.invariant.all piece.below piece.fits c.show_piece.ensures.sound)

pub returns-clause-size : goal.returns-clause-size
returns-clause-size c = rw (← c.picture-2.view_is) (λ lines columns size. HasSize-same c.picture-2.invariant.all (invariant_of-picture c).all size)

pub returns-clause-width : goal.returns-clause-width
returns-clause-width c = rw (← c.picture-2.view_is) (line_width _ _ _ _ (invariant_of-picture c).all c.picture-2.invariant.all)
