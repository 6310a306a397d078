-- The node below is the next panel of the reversed order.
use Rattle.stack.specs.{arith}
use Rattle.stack.proofs.Neighbours.{below-is, last-is, panel_or_none}
use Rattle.stack.proofs.table.Stack.below.Goals as goal

pub returns-in_ok-require_visible-in-Some : goal.returns-in_ok-require_visible-in-Some
returns-in_ok-require_visible-in-Some c = grind (arith, panel_or_none, below-is)

pub returns-in-None : goal.returns-in-None
returns-in-None c = grind (arith, panel_or_none, last-is)
