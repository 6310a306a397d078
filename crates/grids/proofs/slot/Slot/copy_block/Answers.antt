-- Cells are copied in the grid, and the slot's other cells stay.
use Rattle.grids.specs.contracts.slot.Slot.{the_view}
use Rattle.grids.proofs.NewSlots.{block-window, StaysInPlace-grid}
use Rattle.grids.proofs.slot.Slot.copy_block.Goals as goal

pub returns-clause-window : goal.returns-clause-window
returns-clause-window c =
    let a = c.args in
    rw (← c.self.view_is) (block-window (the_view c.self.inside) c.in-Own.grid _ a.sy a.sx a.dy a.dx a.lines a.columns c.in-Own.is
    (rw (c.from.ensures, c.from-in-Own.ensures, c.from-in-Own-2.ensures, c.from-in-Own-3.ensures, c.from-in-Own-4.ensures, c.from-in-Own-5.ensures) at c.copy_block.ensures.shown))

pub returns-clause-place : goal.returns-clause-place
returns-clause-place c =
    let e = c.copy_block.ensures in
    rw (← c.self.view_is) (StaysInPlace-grid (the_view c.self.inside) c.in-Own.grid _ c.self.invariant c.in-Own.is (e.size _ _) e.cells)

pub invariant_of-self : goal.invariant_of-self
invariant_of-self c = (returns-clause-place c).kept
