use Rattle.world.specs.{arith}
use Rattle.world.proofs.Allowed.{allowed-making}
use Rattle.world.proofs.MoveLaws.{found-change}
use Rattle.world.proofs.laws.kept_by_making.Goals as goal

pub returns : goal.returns
returns c = grind (arith, found-change, allowed-making)
