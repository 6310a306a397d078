use Rattle.windows.specs.{arith, rules}
use Rattle.windows.proofs.GivenCells.{some_lack}
use Rattle.windows.proofs.given.refusal_of.Goals as goal

pub returns-else-some_give_no_character : goal.returns-else-some_give_no_character
returns-else-some_give_no_character c = let pairs = some_lack c.args.numbers.now c.requires (search rules) in grind arith
