-- The order is that of the others with the panel before them.
use Rattle.stack.specs.{arith}
use Rattle.stack.proofs.Tables.{reordered-panels, reordered-table, sound}
use Rattle.stack.proofs.table.Stack.bottom.Goals as goal

pub returns : goal.returns
returns c = grind (arith, reordered-panels, sound, reordered-table)
