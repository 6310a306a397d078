-- All lines are all cells.
use Rattle.windows.specs.{rules}
use Rattle.windows.proofs.Drawings.{all_cleared}
use Rattle.windows.proofs.drawing.clear_all.Goals as goal

pub returns : goal.returns
returns c = search (rules, all_cleared)
