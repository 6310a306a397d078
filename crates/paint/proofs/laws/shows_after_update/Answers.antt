use Rattle.paint.proofs.Repair.{shows-update}
use Rattle.paint.proofs.laws.shows_after_update.Goals as goal

pub returns : goal.returns
returns c = shows-update
