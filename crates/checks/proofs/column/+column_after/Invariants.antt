use Rattle.checks.specs.{length}
use Rattle.checks.proofs.column.+column_after.Given as goal

abbrev pub decreases-column_after : goal.decreases-column_after
decreases-column_after l = length l.forms.now
