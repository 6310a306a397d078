use Rattle.script.specs.{refl}
use Rattle.script.specs.declared.limits.TheConstants.{GREATEST_NUMBER}
use Rattle.script.proofs.NumberLemmas.{no_number}
use Rattle.script.proofs.numbers.number_before.Goals as goal

pub returns-in_default-clause-number : goal.returns-in_default-clause-number
returns-in_default-clause-number c =
    let given = c.requires in
    let other = c.in_default.ensures.other refl in
    no_number GREATEST_NUMBER c.args.text.now _ given.digits.digits other.0 other.1 given.few (given.stops other.0)
