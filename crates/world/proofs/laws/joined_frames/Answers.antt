use Rattle.world.specs.{arith}
use Rattle.world.proofs.FrameLaws.{frame-joined, frame_of-is}
use Rattle.world.proofs.laws.joined_frames.Goals as goal

pub returns : goal.returns
returns c = grind (arith, frame-joined, frame_of-is)
