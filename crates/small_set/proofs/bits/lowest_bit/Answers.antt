use Rattle.std.proofs.Common.{arith, w64}
use Rattle.std.proofs.lemmas.Nat.Bits.{bit_at-trailing_zeros}
use Rattle.small_set.proofs.bits.lowest_bit.Goals as goal

pub returns-clause-set : goal.returns-clause-set
returns-clause-set c = grind (arith, bit_at-trailing_zeros w64)

pub returns-clause-below : goal.returns-clause-below
returns-clause-below c = grind (arith, bit_at-trailing_zeros w64)
