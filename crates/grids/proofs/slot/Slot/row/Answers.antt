-- The row is the part of the grid's line from the slot's first column on.
use Rattle.std.specs.Prelude.{◌≡◌, ◌+◌, ◌-◌, ◌≤◌, ◌<◌}
use Rattle.grids.specs.{length, arith, ap, line_of, Kept}
use Rattle.cell.proofs.PictureLemmas.{length-line}
use Rattle.grids.proofs.NewSlots.{piece-of_line, cells-of_line}
use Rattle.grids.proofs.slot.Slot.row.Goals as goal

pub returns-clause-row : goal.returns-clause-row
returns-clause-row c =
    let a = c.args in
    let picture = c.in-Own.grid in
    let grid = rw c.in-Own.is at c.self.invariant.grid in
    let below : a.line < c.self.inside.lines = omega (arith, c.requires.line_in, ap (λ (k : Kept). k.lines) c.self.view_is) in
    let width = length-line a.line grid.0 below in
    let fits : a.left + a.len ≤ length (line_of picture a.line) = omega (arith, width, c.requires.columns_in, ap (λ (k : Kept). k.columns) c.self.view_is) in
    let few : c.from-start.result + c.from-in-Own.result - c.from-start.result ≡ a.len = omega (arith, c.from-in-Own.ensures) in
    rw (few, c.from-start.ensures, c.row.ensures.row, c.from.ensures, ← c.self.view_is, c.in-Own.is) (piece-of_line picture a.line a.left a.len fits)

pub returns-clause-cells : goal.returns-clause-cells
returns-clause-cells c =
    let a = c.args in
    let picture = c.in-Own.grid in
    let grid = rw c.in-Own.is at c.self.invariant.grid in
    let below : a.line < length picture = omega (arith, c.requires.line_in, ap (λ (k : Kept). k.lines) c.self.view_is, grid.0.height) in
    rw (c.row.ensures.row, c.from.ensures) (cells-of_line picture a.line c.from-start.result (c.from-start.result + c.from-in-Own.result - c.from-start.result) grid.1 below)
