use Rattle.paint.proofs.Repair.{Agrees-update}
use Rattle.paint.proofs.laws.agrees_after_update.Goals as goal

pub returns : goal.returns
returns c = Agrees-update
