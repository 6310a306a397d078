-- A cell is one write.
use Rattle.windows.specs.{rules}
use Rattle.windows.proofs.States.{state-written}
use Rattle.windows.proofs.Drawings.{one_cell}
use Rattle.windows.proofs.drawing.set_cell.Goals as goal

pub returns : goal.returns
returns c = search (rules, one_cell, state-written)
