-- `copy_cells`: cells copied within a grid (`Moves`), whose lines are one after another (`GridLemmas`, `PieceWrites`).
use Rattle.cell.specs.{arith}
use Rattle.cell.proofs.GridLemmas.{EachCell-rows}
use Rattle.cell.proofs.PieceWrites.{HasSize-same}
use Rattle.cell.proofs.Moves.{CellsFit, CellsFit-from, shown-cells}
use Rattle.cell.proofs.grid.Grid.copy_cells.Given.{Over}
use Rattle.cell.proofs.grid.Grid.copy_cells.Goals as goal

fit : (g : Over) (c : goal.After-max g) → CellsFit c.self.inside.lines c.self.inside.columns c.args.sy c.args.sx c.args.dy c.args.dx c.args.n
fit g c = let a = c.args in let r = c.requires in CellsFit-from a.sy a.sx a.dy a.dx a.n c.self.invariant.all c.self.view_is r.source r.target r.source_columns r.target_columns

pub overflow_mul-sy : goal.overflow_mul-sy
overflow_mul-sy g c = let f = fit g c in omega (arith, f.from_end, f.few)

pub overflow_add-sy : goal.overflow_add-sy
overflow_add-sy g c = let f = fit g c in omega (arith, f.from_end, f.few)

pub overflow_mul-dy : goal.overflow_mul-dy
overflow_mul-dy g c = let f = fit g c in omega (arith, f.to_end, f.few)

pub overflow_add-dy : goal.overflow_add-dy
overflow_add-dy g c = let f = fit g c in omega (arith, f.to_end, f.few)

pub move_cells-requires-clause-line : goal.move_cells-requires-clause-line
move_cells-requires-clause-line g c = rw c.max.ensures (fit g c).last

pub move_cells-requires-clause-from : goal.move_cells-requires-clause-from
move_cells-requires-clause-from g c = rw c.max.ensures (fit g c).from_end

pub move_cells-requires-clause-to : goal.move_cells-requires-clause-to
move_cells-requires-clause-to g c = rw c.max.ensures (fit g c).to_end

pub returns-clause-shown : goal.returns-clause-shown
returns-clause-shown g c =
    let a = c.args in
    let f = CellsFit-from a.sy a.sx a.dy a.dx a.n c.self.invariant.all c.self.view_is c.requires.source c.requires.target c.requires.source_columns c.requires.target_columns in
    rw (← c.self.view_is, c.move_cells.ensures.moved) (shown-cells g.T.Element.blank _ _ _ c.self.invariant.all a.sy a.sx a.dy a.dx a.n f.source f.target f.left f.fits)

pub returns-clause-size : goal.returns-clause-size
returns-clause-size g c = rw (← c.self.view_is) (λ lines columns size. HasSize-same c.self.invariant.all c.move_cells.ensures.grid.all size)

pub returns-clause-cells : goal.returns-clause-cells
returns-clause-cells g c = λ _. EachCell-rows _ _ _ c.move_cells.ensures.grid.all
