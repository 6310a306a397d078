use Rattle.calls.proofs.CallLaws.{tested-named}
use Rattle.calls.proofs.laws.refusals_are_named.Goals as goal

pub returns : goal.returns
returns c = tested-named
