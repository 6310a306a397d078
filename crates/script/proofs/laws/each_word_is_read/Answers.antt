use Rattle.script.proofs.WordLaws.{found_both_ways}
use Rattle.script.proofs.laws.each_word_is_read.Goals as goal

pub returns : goal.returns
returns c = λ word. (found_both_ways word).0
