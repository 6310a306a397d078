-- The node above is the next panel of the order.
use Rattle.stack.specs.{arith}
use Rattle.stack.proofs.Neighbours.{above-is, panel_or_none}
use Rattle.stack.proofs.table.Stack.above.Goals as goal

pub returns-in_ok-require_visible-in-Some : goal.returns-in_ok-require_visible-in-Some
returns-in_ok-require_visible-in-Some c = grind (arith, panel_or_none, above-is)
