use Rattle.checks.specs.{room_of}
use Rattle.checks.proofs.arguments.+find_stray.Given as goal

abbrev pub decreases-find_stray : goal.decreases-find_stray
decreases-find_stray l = room_of l.text
