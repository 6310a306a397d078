-- The bits from the first on, of those up to the last.
use Rattle.std.proofs.Common.{◌≡◌, ℕ, ◌-◌, ◌^◌, ◌<◌, ◌≤◌, ◌&&◌, if◌then◌else◌, nat_le, nat_lt, bit_and, inl, inr, ◌∙◌, arith}
use Rattle.std.specs.Int.{bit_at}
use Rattle.std.proofs.lemmas.Nat.Bits.{bit_at-zero, bit_at_and, bit_at_mask_below, bit_at_mask_inside, bit_at_ones, bit_at_ones_above, ones_shl, ones_shr}
use Rattle.std.proofs.lemmas.Bool.{cases_lt}
use Rattle.std.proofs.lemmas.Bool.Decides.{nat_tests}
use Rattle.small_set.proofs.bits.bits_between.Goals as goal

between : (first end i : ℕ) → end ≤ 64 → bit_at (bit_and (2 ^ 64 - 2 ^ first) (2 ^ end - 1)) i ≡ (if nat_le first i && nat_lt i end then 1 else 0)
between first end i inside = rw (bit_at_and (2 ^ 64 - 2 ^ first) (2 ^ end - 1) i) (elim (cases_lt i first) [
  | inl low ↦ rw (bit_at_mask_below first 64 i low) (grind (arith, nat_tests))
  | inr from ↦ elim (cases_lt i end) [
    | inl within ↦ rw (bit_at_mask_inside first 64 i from (omega arith), bit_at_ones end i within) (grind (arith, nat_tests))
    | inr past ↦ rw (bit_at_ones_above end i past) (grind (arith, nat_tests))
  ]
])

pub returns-clause-bits : goal.returns-clause-bits
returns-clause-bits c i =
    rw (ones_shl 64 c.args.first (omega arith), ones_shr 64 (63 - c.args.last) (omega arith), between c.args.first (64 - (63 - c.args.last)) i (omega arith)) (grind (arith, nat_tests))

positive : (n i : ℕ) → bit_at n i ≡ 1 → 0 < n
positive n i one = elim (cases_lt 0 n) [
  | inl is ↦ is
  | inr not ↦ absurd (let none : n ≡ 0 = omega arith in grind (arith, bit_at-zero i, one, none))
]

pub returns-clause-some : goal.returns-clause-some
returns-clause-some c = positive _ c.args.first (returns-clause-bits c c.args.first ∙ grind (arith, nat_tests))
