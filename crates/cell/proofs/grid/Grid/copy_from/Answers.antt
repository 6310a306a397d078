-- `copy_from`: the lines of a grid whose cells are one after another: each line, a change of one cell, and equal sizes (`GridLemmas`); the
-- blanks that are missing after a grid's cells (`Blanks`).
use Rattle.cell.specs.{arith}
use Rattle.cell.proofs.GridLemmas.{same_grid_size, same_width}
use Rattle.cell.proofs.Blanks.{IsGrid-copied, few_cells, same_product}
use Rattle.cell.proofs.grid.Grid.copy_from.Goals as goal

pub unwrap-requires : goal.unwrap-requires
unwrap-requires g c =
    let same = same_width c.self.invariant.all c.other.invariant.all c.self.view_is c.other.view_is c.requires in
    let many = same_product same.0 same.1 in
    c.extend_from_slice.ensures.succeeds (omega (arith, c.clear.ensures.len, c.clear.ensures.capacity, c.deref.ensures.len, few_cells c.other.invariant, c.self.invariant.room))

pub invariant_of-self : goal.invariant_of-self
invariant_of-self g c =
    let same = same_width c.self.invariant.all c.other.invariant.all c.self.view_is c.other.view_is c.requires in
    rw (c.extend_from_slice.ensures.items, c.unwrap.ensures, c.clear.ensures.items, c.deref.ensures.value)
    (IsGrid-copied c.self.invariant c.other.invariant same.0 same.1 (omega (arith, c.clear.ensures.capacity, c.extend_from_slice.ensures.capacity)))

pub returns : goal.returns
returns g c =
    let same = same_width c.self.invariant.all c.other.invariant.all c.self.view_is c.other.view_is c.requires in
    rw (c.extend_from_slice.ensures.items, c.unwrap.ensures, c.clear.ensures.items, c.deref.ensures.value, same_product same.0 same.1)
    (same_grid_size c.self.invariant.all c.other.invariant.all c.self.view_is c.other.view_is c.requires).1
