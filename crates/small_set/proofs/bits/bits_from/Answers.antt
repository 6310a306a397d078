-- A bit below the place is masked away; one from there on is kept, also past the 64th, where none is set.
use Rattle.std.proofs.Common.{◌-◌, ◌^◌, inl, inr, arith}
use Rattle.std.proofs.lemmas.Nat.Bits.{bit_at_and, bit_at-lt, bit_at_above, bit_at_mask_above, bit_at_mask_below, bit_at_mask_inside, ones_shl}
use Rattle.std.proofs.lemmas.Bool.{cases_lt}
use Rattle.small_set.proofs.bits.bits_from.Goals as goal

pub returns-clause-below : goal.returns-clause-below
returns-clause-below c i low =
    rw (ones_shl 64 c.args.from (omega (arith, c.requires)), bit_at_and c.args.word (2 ^ 64 - 2 ^ c.args.from) i, bit_at_mask_below c.args.from 64 i low) (omega arith)

pub returns-clause-others : goal.returns-clause-others
returns-clause-others c i from =
    rw (ones_shl 64 c.args.from (omega (arith, c.requires)), bit_at_and c.args.word (2 ^ 64 - 2 ^ c.args.from) i) (elim (cases_lt i 64) [
      | inl inside ↦ rw (bit_at_mask_inside c.args.from 64 i from inside) (omega (arith, bit_at-lt c.args.word i))
      | inr past ↦ rw (bit_at_mask_above c.args.from 64 i past, bit_at_above c.args.word 64 i c.ranges.word.fits past) (omega arith)
    ])
