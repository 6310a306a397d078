use Rattle.ecma.proofs.Stopping.{FailsAt-append}
use Rattle.ecma.proofs.laws.failure_stays.Goals as goal

pub returns : goal.returns
returns c = FailsAt-append
