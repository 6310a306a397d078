use Rattle.grids.proofs.Settling.{IsSettledBelow}
use Rattle.grids.proofs.parents.settle.Given as goal

abbrev pub invariant-loop-at : goal.invariant-loop-at
invariant-loop-at l = IsSettledBelow l.fn.slots.items l.slots.items l.at
