-- One node alone is a table of no panels.
use Rattle.stack.proofs.Tables.{first-panels, first-table}
use Rattle.stack.proofs.table.Stack.new.Goals as goal

pub invariant_of-result : goal.invariant_of-result
invariant_of-result c = rw c.new.ensures first-table

pub returns : goal.returns
returns c = rw c.new.ensures first-panels
