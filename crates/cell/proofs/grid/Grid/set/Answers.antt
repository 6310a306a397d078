-- `set`: one cell of a line is filled, and all others stay.
use Rattle.cell.specs.{arith}
use Rattle.cell.proofs.GridLemmas.{HasLine-from_length, column_below}
use Rattle.cell.proofs.Moves.{each_width}
use Rattle.cell.proofs.PictureLemmas.{one-cell}
use Rattle.cell.proofs.grid.Grid.set.Goals as goal

pub prove-unreachable-requires : goal.prove-unreachable-requires
prove-unreachable-requires g c = let left = column_below c.self.invariant.all c.self.view_is c.requires.line c.requires.column in omega (arith, c.if-prove.true, left)

pub overflow_add-x : goal.overflow_add-x
overflow_add-x g c = omega (arith, c.if-prove.false, c.self.invariant.all.few_columns)

pub returns : goal.returns
returns g c =
    let i = c.self.invariant.all in
    let size = rw c.self.view_is at (each_width _ _ _ i) in
    one-cell g.T.Element.blank c.args.cell c.args.y c.args.x size (c.fill.ensures.size _ _ size) (HasLine-from_length i c.self.view_is c.requires.line).below
    c.if-prove.false c.fill.ensures.shown
