-- Given cells are put into the grid's line, and the slot's other cells stay.
use Rattle.grids.specs.contracts.slot.Slot.{the_view}
use Rattle.grids.proofs.NewSlots.{StaysInPlace-grid}
use Rattle.grids.proofs.slot.Slot.give.Goals as goal

pub returns-clause-place : goal.returns-clause-place
returns-clause-place c =
    let e = c.give_cells.ensures in
    rw (← c.self.view_is) (StaysInPlace-grid (the_view c.self.inside) c.in-Own.grid _ c.self.invariant c.in-Own.is (e.size _ _) e.cells)

pub invariant_of-self : goal.invariant_of-self
invariant_of-self c = (returns-clause-place c).kept
