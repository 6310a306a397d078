-- A panel that was taken out is put in again at the bottom.
use Rattle.stack.specs.{arith}
use Rattle.stack.proofs.Threads.{twice-windows}
use Rattle.stack.proofs.links.move_to_bottom.Goals as goal

pub returns : goal.returns
returns c = grind (arith, twice-windows)
