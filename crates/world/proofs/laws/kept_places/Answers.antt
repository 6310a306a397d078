use Rattle.world.specs.{arith}
use Rattle.world.proofs.CallLaws.{picture-kept, virtual-kept}
use Rattle.world.proofs.laws.kept_places.Goals as goal

pub returns-clause-picture : goal.returns-clause-picture
returns-clause-picture c = grind (arith, picture-kept)

pub returns-clause-virtual_screen : goal.returns-clause-virtual_screen
returns-clause-virtual_screen c = grind (arith, virtual-kept)
