use Rattle.calls.proofs.CallLaws.{query-asks}
use Rattle.calls.proofs.laws.queries_only_ask.Goals as goal

pub returns : goal.returns
returns c = query-asks
