use Rattle.stack.specs.{arith, cases_eq, eq-eqb, ne_eqb, same_Some}
use Rattle.stack.proofs.Searches.{holder-some}
use Rattle.stack.proofs.entries.holder.Goals as goal

pub returns : goal.returns
returns c = grind (arith, holder-some, cases_eq, eq-eqb, ne_eqb, same_Some)
