use Rattle.world.proofs.CellLaws.{is-write}
use Rattle.world.proofs.laws.writes_are_shared.Goals as goal

pub returns : goal.returns
returns c = is-write
