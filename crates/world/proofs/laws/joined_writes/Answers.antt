use Rattle.world.proofs.WindowLaws.{put-put}
use Rattle.world.proofs.laws.joined_writes.Goals as goal

pub returns : goal.returns
returns c = put-put
