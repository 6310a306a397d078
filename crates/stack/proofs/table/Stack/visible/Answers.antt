-- The way up comes to the panels of the order, which has no more of them than there are nodes.
use Rattle.stack.specs.{ap, arith, length, length-map}
use Rattle.stack.proofs.Threads.{few, shown-up}
use Rattle.stack.proofs.table.Stack.visible.Goals as goal

pub returns-clause-all : goal.returns-clause-all
returns-clause-all c = rw (← c.self.view_is, c.from_bottom.ensures) (shown-up c.self.inside.nodes _ c.self.invariant.threaded)

pub returns-clause-few : goal.returns-clause-few
returns-clause-few c = grind (arith, few, length-map, (ap length (shown-up c.self.inside.nodes _ c.self.invariant.threaded).numbers))
