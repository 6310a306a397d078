-- The order is that of the others, and the panel has no window.
use Rattle.stack.specs.{arith}
use Rattle.stack.proofs.Tables.{deleted-panels, deleted-table, sound}
use Rattle.stack.proofs.table.Stack.del.Goals as goal

pub invariant_of-self : goal.invariant_of-self
invariant_of-self c = grind (arith, deleted-table)

pub returns : goal.returns
returns c = grind (arith, deleted-panels, sound, deleted-table)
