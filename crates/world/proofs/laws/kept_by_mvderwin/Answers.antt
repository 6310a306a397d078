use Rattle.world.proofs.AncestorLaws.{cell_at-moved}
use Rattle.world.proofs.laws.kept_by_mvderwin.Goals as goal

pub returns : goal.returns
returns c = cell_at-moved
