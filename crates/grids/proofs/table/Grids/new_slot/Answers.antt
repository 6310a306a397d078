-- A new slot leads to its own grid, or to that of its parent.
use Rattle.grids.specs.{arith, refl, ◌∙◌}
use Rattle.grids.specs.contracts.table.Grids.{the_view}
use Rattle.grids.proofs.Chain.{depth_below}
use Rattle.grids.proofs.Origins.{origin-alone, origin-derived}
use Rattle.grids.proofs.table.Grids.new_slot.Goals as goal

pub overflow_add-depth : goal.overflow_add-depth
overflow_add-depth c =
    let t = the_view c.self.inside in
    let slot = c.in_ok-slot-in-Some in
    omega (arith, depth_below t.slots c.self.invariant.chained c.in-Some.part.parent slot.field-0.now (rw (← c.self.view_is) at slot.ensures.found))

pub returns-in_ok-with_grid-in-None-clause-origin : goal.returns-in_ok-with_grid-in-None-clause-origin
returns-in_ok-with_grid-in-None-clause-origin c = λ new set chained.
    let made = c.in_ok-with_grid-in-None in
    origin-alone (the_view c.self.inside).slots new c.args.number made.field-0 c.self.invariant.chained (rw (← c.self.view_is) at set) (rw (← c.self.view_is) at c.requires.free.free)
    made.ensures.kept.2 made.ensures.origin

pub returns-in_ok-with_parent-in-Some-clause-origin : goal.returns-in_ok-with_parent-in-Some-clause-origin
returns-in_ok-with_parent-in-Some-clause-origin c = λ new set chained.
    let made = c.in_ok-with_parent-in-Some in
    let parent = rw (← c.self.view_is) at c.in_ok-slot-in-Some.ensures.found in
    let o = c.origin_of in
    origin-derived (the_view c.self.inside).slots new c.args.number made.field-0 c.self.invariant.chained (rw (← c.self.view_is) at set) (rw (← c.self.view_is) at c.requires.free.free)
    c.in-Some.part (record { grid = o.result.grid; line = o.result.line; column = o.result.column }) made.ensures.kept.2 (rw parent refl) (rw c.deref.ensures.value at o.ensures.leads)
    (made.ensures.origin ∙ c.onward-origin.ensures) set.few chained
