-- A word whose highest set bit has place j is 2 ^ j and less than that more.
use Rattle.std.proofs.Common.{◌≡◌, ℕ, suc, ◌+◌, ◌-◌, ◌*◌, ◌^◌, ◌<◌, ◌≤◌, ap, ◌∙◌, arith}
use Rattle.std.specs.Int.{bit_at}
use Rattle.std.specs.Int.Count.{count_leading_zeros}
use Rattle.std.proofs.lemmas.Nat.{leading_top}
use Rattle.std.proofs.lemmas.Nat.Bits.{bit_at_above, bit_at_cat_high}
use Rattle.small_set.proofs.bits.highest_bit.Goals as goal

top-set : (a j : ℕ) → 2 ^ j ≤ a → a < 2 ^ suc j → bit_at a j ≡ 1
top-set a j from upto =
    let twice : 2 ^ suc j ≡ 2 * 2 ^ j = omega arith in
    let is : a ≡ 1 * 2 ^ j + (a - 2 ^ j) = omega arith in
    let zero_more : j - j ≡ 0 = omega arith in
    ap (λ n. bit_at n j) is ∙ bit_at_cat_high 1 j (a - 2 ^ j) j (omega arith) (omega arith) ∙ ap (bit_at 1) zero_more

pub returns-clause-set : goal.returns-clause-set
returns-clause-set c =
    let top = leading_top 64 c.args.word c.requires c.ranges.word.fits in
    let is : 63 - count_leading_zeros 64 c.args.word ≡ top.0 = omega (arith, top.1) in
    rw is (top-set c.args.word top.0 top.2 top.3)

pub returns-clause-above : goal.returns-clause-above
returns-clause-above c i from =
    let top = leading_top 64 c.args.word c.requires c.ranges.word.fits in
    bit_at_above c.args.word (suc top.0) i top.3 (omega (arith, top.1, from))
