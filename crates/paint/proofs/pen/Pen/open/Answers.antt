use Rattle.std.proofs.Common.{arith}
use Rattle.std.proofs.lemmas.Grind.{common_steps}
use Rattle.paint.proofs.Shows.{opening-spelled}
use Rattle.paint.proofs.PenSteps.{Gathers-then}
use Rattle.paint.proofs.pen.Pen.open.Goals as goal

pub returns-clause-gathers : goal.returns-clause-gathers
returns-clause-gathers g c = grind (arith, opening-spelled, Gathers-then, common_steps)
