-- `next`: of its word there is none left, and the least one is in the next word that has any (`Words`).
use Rattle.std.proofs.Common.{arith}
use Rattle.small_set.proofs.Words.{next-found}
use Rattle.small_set.proofs.set.SmallSet.next.Goals as goal

pub returns : goal.returns
returns c = rw c.self.view_is at (next-found c.self.inside.words c.self.inside.some c.args.from c.bits_from-word.result c.bits_from-later.result c.self.invariant.1
    (λ i on. grind (arith, c.bits_from-word.ensures.others i on, c.in-Some.ensures.lookup)) (omega (arith, c.if-word-ne0.false)) c.bits_from-later.ensures.below c.bits_from-later.ensures.others
    c.lowest_bit-at.result c.lowest_bit-2.result c.lowest_bit-at.ensures.set c.lowest_bit-at.ensures.below c.lowest_bit-2.ensures.inside
    (rw c.from-2.ensures at c.lowest_bit-2.ensures.set) (rw c.from-2.ensures at c.lowest_bit-2.ensures.below))
