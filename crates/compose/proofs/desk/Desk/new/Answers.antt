use Rattle.compose.specs.{arith, rules, common_steps}
use Rattle.compose.proofs.DamageCovers.{IsDesk-new}
use Rattle.compose.proofs.desk.Desk.new.Goals as goal

pub invariant_of-result : goal.invariant_of-result
invariant_of-result c = IsDesk-new _ c.args.lines c.args.cols (search rules) c.in_ok-windows.ensures.sound c.in_ok-damage.ensures c.in_ok-picture.ensures.changes

pub returns-clause-sound : goal.returns-clause-sound
returns-clause-sound c = (invariant_of-result c).sound

-- what the kit tries first takes seconds at this
pub returns-clause-world : goal.returns-clause-world
returns-clause-world c = grind (arith, common_steps)
