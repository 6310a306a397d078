-- The calls that ask change nothing (`OutcomeLaws`).
use Rattle.compose.specs.{arith}
use Rattle.compose.proofs.OutcomeLaws.{rearranges-asked}
use Rattle.compose.proofs.dispatch.arrange.Goals as goal

pub returns-in_default : goal.returns-in_default
returns-in_default c = rearranges-asked _ _ _ _ (grind arith) c.of_panels.ensures
