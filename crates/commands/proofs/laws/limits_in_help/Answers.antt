use Rattle.commands.specs.{refl, digits}
use Rattle.commands.proofs.laws.limits_in_help.Goals as goal

pub returns-clause-lines : goal.returns-clause-lines
unfolding digits
returns-clause-lines c = refl

pub returns-clause-columns : goal.returns-clause-columns
unfolding digits
returns-clause-columns c = refl
