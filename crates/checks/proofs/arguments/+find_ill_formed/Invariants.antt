use Rattle.checks.specs.{length}
use Rattle.checks.proofs.arguments.+find_ill_formed.Given as goal

abbrev pub decreases-find_ill_formed : goal.decreases-find_ill_formed
decreases-find_ill_formed l = length l.forms.now
