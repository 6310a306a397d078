-- Near cells are looked at one after another, then many together.
use Rattle.std.proofs.lemmas.Grind.{common_steps}
use Rattle.paint.specs.{arith, cases_lt}
use Rattle.paint.proofs.line.next_changed.Goals as goal

pub returns-clause-alike : goal.returns-clause-alike
returns-clause-alike c = grind (arith, cases_lt, common_steps)
