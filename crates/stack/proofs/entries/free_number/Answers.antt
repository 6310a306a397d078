-- The least free number can be a panel's, or there are as many panels as there may be.
use Rattle.stack.specs.{arith}
use Rattle.stack.proofs.Searches.{least-found, none-found}
use Rattle.stack.proofs.entries.free_number.Goals as goal

pub returns-then-number-le-MOST_PANELS-clause-number : goal.returns-then-number-le-MOST_PANELS-clause-number
returns-then-number-le-MOST_PANELS-clause-number c = grind (arith, least-found)

pub returns-else-number-le-MOST_PANELS-clause-number : goal.returns-else-number-le-MOST_PANELS-clause-number
returns-else-number-le-MOST_PANELS-clause-number c = grind (arith, none-found)
