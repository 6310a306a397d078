use Rattle.world.proofs.WindowLaws.{own-put}
use Rattle.world.proofs.laws.own_after_write.Goals as goal

pub returns : goal.returns
returns c = own-put
