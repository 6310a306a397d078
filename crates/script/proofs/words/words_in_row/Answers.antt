use Rattle.script.specs.{arith, get_or-map}
use Rattle.script.proofs.words.words_in_row.Goals as goal

pub returns : goal.returns
returns c = grind (arith, get_or-map)
