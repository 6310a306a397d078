-- The touched columns of a line that are found from their ends have these ends.
use Rattle.std.specs.Prelude.{◌≡◌, ◌-◌, ◌≤◌}
use Rattle.grids.specs.Names.{ℕ, arith, inl, inr, refl, le-ltb}
use Rattle.grids.specs.Touches.{AreEnds, before_in, columns_in, last_in}

pub before-back : (before last : ℕ) → AreEnds before last → before_in (columns_in before last) ≡ before
before-back before last ends = elim ends.1 [
  | inl ordered ↦ let first : 65535 - before ≤ last = omega (arith, ends.0) in rw (le-ltb last (65535 - before) first) (omega (arith, ends.0))
  | inr none ↦ rw (none.0, none.1) refl
]

pub last-back : (before last : ℕ) → AreEnds before last → last_in (columns_in before last) ≡ last
last-back before last ends = elim ends.1 [
  | inl ordered ↦ let first : 65535 - before ≤ last = omega (arith, ends.0) in rw (le-ltb last (65535 - before) first) refl
  | inr none ↦ rw (none.0, none.1) refl
]
