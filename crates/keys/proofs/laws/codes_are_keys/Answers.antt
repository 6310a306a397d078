-- `codes_are_keys`: control sequences of numbers (`Numbers`).
use Rattle.keys.specs.{refl}
use Rattle.keys.proofs.Numbers.{coded-character, coded-three, coded-two}
use Rattle.keys.proofs.laws.codes_are_keys.Goals as goal

pub returns-clause-u : goal.returns-clause-u
returns-clause-u c = coded-two

pub returns-clause-other : goal.returns-clause-other
returns-clause-other c = coded-three

pub returns-clause-characters : goal.returns-clause-characters
returns-clause-characters c = coded-character

pub returns-clause-names : goal.returns-clause-names
returns-clause-names c = (refl, refl, refl, refl, refl)
