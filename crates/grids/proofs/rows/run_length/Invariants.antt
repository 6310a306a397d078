use Rattle.std.specs.Prelude.{◌≡◌, ◌<◌}
use Rattle.grids.specs.{ℕ, true, blank, is_some, overlaid_cell, slice_index_or}
use Rattle.grids.proofs.rows.run_length.Given as goal

-- the cells before k are as the first
abbrev pub invariant-loop-k : goal.invariant-loop-k
invariant-loop-k l = (j : ℕ) → j < l.k → is_some (overlaid_cell true (slice_index_or l.cells j blank)) ≡ is_some (overlaid_cell true (slice_index_or l.cells 0 blank))
