use Rattle.paint.proofs.Repair.{Agrees-fault}
use Rattle.paint.proofs.laws.agrees_after_fault.Goals as goal

pub returns : goal.returns
returns c = Agrees-fault
