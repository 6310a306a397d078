use Rattle.world.proofs.FrameLaws.{frame_of-is}
use Rattle.world.proofs.laws.frame_is_smallest.Goals as goal

pub returns : goal.returns
returns c = frame_of-is
