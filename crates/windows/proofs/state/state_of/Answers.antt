use Rattle.windows.specs.{arith}
use Rattle.windows.proofs.States.{state-from}
use Rattle.windows.proofs.state.state_of.Goals as goal

pub returns-clause-state : goal.returns-clause-state
returns-clause-state c = grind (arith, state-from)
