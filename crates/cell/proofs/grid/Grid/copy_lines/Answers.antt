-- `copy_lines`: cells copied within a grid (`Moves`), whose lines are one after another (`GridLemmas`, `PieceWrites`).
use Rattle.cell.specs.{arith}
use Rattle.cell.proofs.GridLemmas.{EachCell-rows}
use Rattle.cell.proofs.PieceWrites.{HasSize-same}
use Rattle.cell.proofs.Moves.{LinesFit, LinesFit-from, shown-lines}
use Rattle.cell.proofs.grid.Grid.copy_lines.Given.{Over}
use Rattle.cell.proofs.grid.Grid.copy_lines.Goals as goal

fit : (g : Over) (c : goal.After-max g) → LinesFit c.self.inside.lines c.self.inside.columns c.args.from c.args.to c.args.n
fit g c = let a = c.args in LinesFit-from a.from a.to a.n c.self.invariant.all c.self.view_is c.if-n-gt0.true c.requires.source c.requires.target

pub overflow_add-max : goal.overflow_add-max
overflow_add-max g c = let f = fit g c in
    omega (arith, c.max.ensures, f.source, f.target, f.few_lines)

pub overflow_mul-from : goal.overflow_mul-from
overflow_mul-from g c = let f = fit g c in omega (arith, f.from_end, f.few)

pub overflow_mul-to : goal.overflow_mul-to
overflow_mul-to g c = let f = fit g c in omega (arith, f.to_end, f.few)

pub overflow_mul-n : goal.overflow_mul-n
overflow_mul-n g c = let f = fit g c in omega (arith, f.to_end, f.few)

pub move_cells-requires-clause-line : goal.move_cells-requires-clause-line
move_cells-requires-clause-line g c = let f = fit g c in
    rw c.max.ensures f.last

pub move_cells-requires-clause-from : goal.move_cells-requires-clause-from
move_cells-requires-clause-from g c = let f = fit g c in
    rw c.max.ensures f.from_end

pub move_cells-requires-clause-to : goal.move_cells-requires-clause-to
move_cells-requires-clause-to g c = let f = fit g c in
    rw c.max.ensures f.to_end

pub returns-then-n-gt0-clause-shown : goal.returns-then-n-gt0-clause-shown
returns-then-n-gt0-clause-shown g c =
    let a = c.args in
    let f = LinesFit-from a.from a.to a.n c.self.invariant.all c.self.view_is c.if-n-gt0.true c.requires.source c.requires.target in
    rw (← c.self.view_is, c.move_cells.ensures.moved) (shown-lines g.T.Element.blank _ _ _ c.self.invariant.all a.from a.to a.n f.source f.target)

pub returns-then-n-gt0-clause-size : goal.returns-then-n-gt0-clause-size
returns-then-n-gt0-clause-size g c = rw (← c.self.view_is) (λ lines columns size. HasSize-same c.self.invariant.all c.move_cells.ensures.grid.all size)

pub returns-then-n-gt0-clause-cells : goal.returns-then-n-gt0-clause-cells
returns-then-n-gt0-clause-cells g c = λ _. EachCell-rows _ _ _ c.move_cells.ensures.grid.all
