-- `names_are_keys`: control sequences of numbers (`Numbers`).
use Rattle.keys.proofs.Numbers.{lettered-two, numbered-one, numbered-two}
use Rattle.keys.proofs.laws.names_are_keys.Goals as goal

pub returns-clause-numbers : goal.returns-clause-numbers
returns-clause-numbers c = numbered-one

pub returns-clause-numbers_with : goal.returns-clause-numbers_with
returns-clause-numbers_with c = numbered-two

pub returns-clause-letters : goal.returns-clause-letters
returns-clause-letters c = lettered-two
