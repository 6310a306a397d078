-- The way down comes to the panels of the reversed order.
use Rattle.stack.specs.{ap, arith, length, length-map, length-reverse}
use Rattle.stack.proofs.Threads.{few, shown-down}
use Rattle.stack.proofs.table.Stack.visible_from_top.Goals as goal

pub returns-clause-all : goal.returns-clause-all
returns-clause-all c = rw (← c.self.view_is, c.from_top.ensures) (shown-down c.self.inside.nodes _ c.self.invariant.threaded)

pub returns-clause-few : goal.returns-clause-few
returns-clause-few c = grind (arith, few, length-map, length-reverse, (ap length (shown-down c.self.inside.nodes _ c.self.invariant.threaded).numbers))
