-- One line is widened, or all lines of the rectangle.
use Rattle.std.proofs.Common.{arith}
use Rattle.std.proofs.lemmas.Grind.{common_steps}
use Rattle.extents.proofs.Lines.{widened-all, widened-more, widened-none}
use Rattle.extents.proofs.extents.Extents.rectangle.Goals as goal

pub returns-then-frame : goal.returns-then-frame
returns-then-frame c = grind (arith, common_steps, widened-more, widened-none, widened-all)
