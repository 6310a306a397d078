use Rattle.cell.specs.{arith}
use Rattle.cell.proofs.Ranges.{same_drop}
use Rattle.cell.proofs.difference.last_diff.Goals as goal

pub loop-end-preserved : goal.loop-end-preserved
loop-end-preserved c = grind (arith, same_drop)
