-- There is a node of the number, or one more at the end.
use Rattle.stack.specs.{arith, common_steps}
use Rattle.stack.proofs.Tables.{made-pushed}
use Rattle.stack.proofs.entries.make_node.Goals as goal

pub returns-in_ok-push-clause-made : goal.returns-in_ok-push-clause-made
returns-in_ok-push-clause-made c = grind (arith, common_steps, made-pushed)
