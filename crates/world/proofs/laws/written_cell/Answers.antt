use Rattle.world.proofs.WindowLaws.{put-takes}
use Rattle.world.proofs.laws.written_cell.Goals as goal

pub returns : goal.returns
returns c = put-takes
