-- `ends_of`: what the kit tries by itself takes seconds at these.
use Rattle.paint.specs.{arith, rules, elements}
use Rattle.paint.proofs.line.ends_of.Goals as goal

pub returns-clause-long : goal.returns-clause-long
returns-clause-long c = search rules

pub returns-clause-ends : goal.returns-clause-ends
returns-clause-ends c = search rules

pub loop-x-preserved : goal.loop-x-preserved
loop-x-preserved c = record { long = search rules; ends = grind (arith, elements) }
