-- The one bit of the number.
use Rattle.std.proofs.Common.{◌≡◌, ℕ, ◌*◌, ◌%◌, ◌^◌, ◌<◌, arith}
use Rattle.std.proofs.Math.Pow.{pow-lt}
use Rattle.std.proofs.lemmas.Bool.{cases_eq, eq-eqb, ne_eqb}
use Rattle.std.proofs.lemmas.Nat.Bits.{bit_at-pow_other, bit_at-pow_same}
use Rattle.small_set.proofs.set.SmallSet.insert.Goals as goal

small : (k : ℕ) → k < 64 → 1 * 2 ^ k % 2 ^ 64 ≡ 2 ^ k
small k below = let least : 2 ^ k < 2 ^ 64 = pow-lt below in omega arith

pub returns : goal.returns
returns c n =
    let k = c.args.number % 64 in
    let is = rw (small k (omega arith)) at c.insert_bits.ensures n in
    grind (arith, cases_eq, eq-eqb, ne_eqb, bit_at-pow_same k, bit_at-pow_other k (n % 64))
