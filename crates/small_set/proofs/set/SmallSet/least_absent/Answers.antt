-- The words before are full, and the first clear bit of the next is the least.
use Rattle.std.proofs.Common.{◌%◌, w64, arith}
use Rattle.std.proofs.lemmas.Bool.{cases_lt}
use Rattle.std.proofs.lemmas.Nat.Bits.{bit_at_ones, bit_at-trailing_ones}
use Rattle.small_set.proofs.set.SmallSet.least_absent.Goals as goal

pub returns-then-word-clause-absent : goal.returns-then-word-clause-absent
returns-then-word-clause-absent c = grind (arith, bit_at-trailing_ones w64)

pub returns-then-word-clause-below : goal.returns-then-word-clause-below
returns-then-word-clause-below c p before = grind (arith, cases_lt, bit_at-trailing_ones w64)

pub loop-at-preserved : goal.loop-at-preserved
loop-at-preserved c p before = grind (arith, cases_lt, bit_at_ones 64 (p % 64))
