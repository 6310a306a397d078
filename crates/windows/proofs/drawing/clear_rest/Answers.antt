-- The rest of a line is one write.
use Rattle.windows.specs.{rules}
use Rattle.windows.proofs.States.{state-written}
use Rattle.windows.proofs.Drawings.{rest_of_line}
use Rattle.windows.proofs.drawing.clear_rest.Goals as goal

pub returns : goal.returns
returns c = search (rules, rest_of_line, state-written)
