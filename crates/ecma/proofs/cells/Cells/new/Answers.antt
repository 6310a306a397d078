-- Search takes seconds to fail at the invariant.
use Rattle.ecma.specs.{arith, common_steps}
use Rattle.ecma.proofs.cells.Cells.new.Goals as goal

pub invariant_of-result : goal.invariant_of-result
invariant_of-result c = grind (arith, common_steps)
