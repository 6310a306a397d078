use Rattle.world.specs.{arith}
use Rattle.world.proofs.StackingLaws.{found-order, ordered-stacking}
use Rattle.world.proofs.laws.kept_by_stacking.Goals as goal

pub returns : goal.returns
returns c = grind (arith, found-order, ordered-stacking)
