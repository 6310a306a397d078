use Rattle.world.proofs.RefreshLaws.{found-refresh}
use Rattle.world.proofs.laws.kept_by_refresh.Goals as goal

pub returns : goal.returns
returns c = found-refresh
