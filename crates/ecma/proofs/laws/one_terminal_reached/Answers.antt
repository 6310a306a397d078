use Rattle.ecma.proofs.Failing.{Reaches-unique}
use Rattle.ecma.proofs.laws.one_terminal_reached.Goals as goal

pub returns : goal.returns
returns c = Reaches-unique
