use Rattle.checks.specs.{room_of}
use Rattle.checks.proofs.arguments.+count.Given as goal

abbrev pub decreases-count : goal.decreases-count
decreases-count l = room_of l.text
