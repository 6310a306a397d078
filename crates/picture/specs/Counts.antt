-- A counter that wraps around at 2^64.
use Rattle.std.specs.Prelude.{◌≡◌, ◌+◌, ◌%◌, ◌^◌}
use Rattle.picture.specs.Names.{ℕ}

-- it grew by so many, from one number to another, modulo 2^64
pub record GrewBy (n old new : ℕ) : Type 0 where
  pub sum : new % 2 ^ 64 ≡ (old + n) % 2 ^ 64
