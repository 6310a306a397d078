use Rattle.std.proofs.Common.{arith, length-set, ◌∙◌}
use Rattle.small_set.proofs.Words.{contains-added, numbers-added}
use Rattle.small_set.proofs.set.SmallSet.insert_bits.Goals as goal

pub returns : goal.returns
returns c n = grind (arith, contains-added)

pub invariant_of-self : goal.invariant_of-self
invariant_of-self c =
    (length-set _ _ _ ∙ c.self.invariant.0, rw c.from.ensures (numbers-added c.self.inside.words c.self.inside.some c.args.at c.self.invariant.0 c.requires.inside c.self.invariant.1 c.args.bits c.requires.some))
