-- A node that names itself is a hidden panel's.
use Rattle.stack.specs.{arith}
use Rattle.stack.proofs.Neighbours.{hidden-is}
use Rattle.stack.proofs.table.Stack.is_hidden.Goals as goal

pub returns : goal.returns
returns c = grind (arith, hidden-is)
