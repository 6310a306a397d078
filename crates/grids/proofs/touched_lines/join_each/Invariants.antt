use Rattle.std.specs.Prelude.{◌≡◌, if◌then◌else◌}
use Rattle.grids.specs.{ℕ, nat_lt, None, length, slice_index_or, joined_columns}
use Rattle.grids.proofs.touched_lines.join_each.Given as goal

-- the lines before y are touched
abbrev pub invariant-loop-y : goal.invariant-loop-y
invariant-loop-y l = record {
  all : length l.touched ≡ length l.fn.touched;
  each : (z : ℕ) → slice_index_or l.touched z None ≡ (if nat_lt z l.y then joined_columns (slice_index_or l.fn.touched z None) l.left l.right else slice_index_or l.fn.touched z None);
}
