-- These are answered since search fails at them first: by what std has, or by the lemmas on arguments.
use Rattle.script.specs.{arith, common_steps}
use Rattle.script.proofs.ArgumentLemmas.{too_few, too_many, as_many}
use Rattle.script.proofs.line.take_all.Goals as goal

pub loop-at-preserved : goal.loop-at-preserved
loop-at-preserved c = grind (arith, common_steps)

pub returns-then-not-is_number-clause-count : goal.returns-then-not-is_number-clause-count
returns-then-not-is_number-clause-count c = grind (arith, common_steps)

pub returns-then-not-is_number-clause-right : goal.returns-then-not-is_number-clause-right
returns-then-not-is_number-clause-right c = grind (arith, common_steps)

pub returns-then-not-is_number-clause-wrong : goal.returns-then-not-is_number-clause-wrong
returns-then-not-is_number-clause-wrong c = grind (arith, common_steps)

pub returns-in_default-next_number-clause-wrong : goal.returns-in_default-next_number-clause-wrong
returns-in_default-next_number-clause-wrong c = grind (arith, common_steps)

pub returns-in-None-clause-right : goal.returns-in-None-clause-right
returns-in-None-clause-right c = grind (arith, common_steps)

pub returns-in-None-clause-count : goal.returns-in-None-clause-count
returns-in-None-clause-count c = grind (arith, as_many)

pub returns-in-Some-rest-clause-wrong : goal.returns-in-Some-rest-clause-wrong
returns-in-Some-rest-clause-wrong c = grind (arith, too_many)

pub returns-in_default-clause-wrong : goal.returns-in_default-clause-wrong
returns-in_default-clause-wrong c = grind (arith, too_few)
