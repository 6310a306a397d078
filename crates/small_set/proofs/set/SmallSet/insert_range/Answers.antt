-- The numbers of one word more.
use Rattle.std.proofs.Common.{◌%◌, arith}
use Rattle.std.proofs.lemmas.Bool.{cases_eq, cases_lt}
use Rattle.std.proofs.lemmas.Bool.Decides.{nat_tests}
use Rattle.small_set.proofs.set.SmallSet.insert_range.Goals as goal

pub loop-at-preserved : goal.loop-at-preserved
loop-at-preserved c n =
    let was = c.loop-at.invariant n in
    let is = c.insert_bits.ensures n in
    let bit = c.bits_between.ensures.bits (n % 64) in
    grind (arith, nat_tests, cases_eq, cases_lt)
