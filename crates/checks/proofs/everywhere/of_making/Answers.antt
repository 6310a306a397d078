-- `of_making`: parts that are too great (`SoundLemmas`); search finds the rest.
use Rattle.checks.specs.{arith, nat_tests}
use Rattle.checks.proofs.SoundLemmas.{outside, outside_from, outside_pad}
use Rattle.checks.proofs.everywhere.of_making.Goals as goal

pub returns-in-Subwin : goal.returns-in-Subwin
returns-in-Subwin c = λ world sound. grind (arith, nat_tests, outside_from world sound, c.in-Subwin.is)

pub returns-in-Derwin : goal.returns-in-Derwin
returns-in-Derwin c = λ world sound. grind (arith, nat_tests, outside world sound, c.in-Derwin.is)

pub returns-in-Subpad-2 : goal.returns-in-Subpad-2
returns-in-Subpad-2 c = λ world sound. grind (arith, nat_tests, outside_pad world sound, c.in-Subpad-2.is)
