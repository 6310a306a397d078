use Rattle.world.proofs.WindowLaws.{own-onward}
use Rattle.world.proofs.laws.own_is_moved.Goals as goal

pub returns : goal.returns
returns c = own-onward
