-- Sizes of screens, windows and pads. Their limits are Curspan's own choice.
use Rattle.std.specs.Prelude.{◌==◌, ◌||◌}
use Rattle.cell.specs.Names.{ℕ, Bool, nat_lt}

-- a number of lines or columns out of the limit
abbrev pub is_no_size : ℕ → ℕ → Bool
is_no_size most n = n == 0 || nat_lt most n
