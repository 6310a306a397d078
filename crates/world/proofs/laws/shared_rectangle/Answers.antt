use Rattle.world.proofs.SharingLaws.{shared-rectangle}
use Rattle.world.proofs.laws.shared_rectangle.Goals as goal

pub returns : goal.returns
returns c = shared-rectangle
