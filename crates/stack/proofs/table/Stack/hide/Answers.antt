-- The order is that of the others.
use Rattle.stack.specs.{arith}
use Rattle.stack.proofs.Tables.{reordered-panels, reordered-table, sound}
use Rattle.stack.proofs.table.Stack.hide.Goals as goal

pub returns : goal.returns
returns c = grind (arith, reordered-panels, sound, reordered-table)
