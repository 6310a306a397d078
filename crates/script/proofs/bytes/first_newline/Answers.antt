-- There is no newline before the bytes that are looked through.
use Rattle.script.specs.{arith, is_newline}
use Rattle.script.proofs.NewlineLemmas.{found_after, first_at, none_after, none_further}
use Rattle.script.proofs.bytes.first_newline.Goals as goal

pub returns-then-before-lt-LANES : goal.returns-then-before-lt-LANES
returns-then-before-lt-LANES c = grind (arith, (first_at is_newline), (none_further is_newline))

pub returns-in-Some : goal.returns-in-Some
returns-in-Some c = grind (arith, (found_after is_newline))

pub returns-in-None : goal.returns-in-None
returns-in-None c = grind (arith, (none_after is_newline))
