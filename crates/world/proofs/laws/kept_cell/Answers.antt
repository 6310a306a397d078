use Rattle.world.proofs.WindowLaws.{put-keeps}
use Rattle.world.proofs.laws.kept_cell.Goals as goal

pub returns : goal.returns
returns c = put-keeps
