use Rattle.checks.specs.{length}
use Rattle.checks.proofs.suggest.+is_near.Given as goal

abbrev pub decreases-is_near : goal.decreases-is_near
decreases-is_near l = length l.text.now
