use Rattle.script.specs.{arith, nat_tests, prefix_len-le-length}
use Rattle.script.proofs.bytes.before_first_newline.Goals as goal

pub returns-in-None-clause-value : goal.returns-in-None-clause-value
returns-in-None-clause-value c = grind (arith, nat_tests, prefix_len-le-length)
