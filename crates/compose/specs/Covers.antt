-- What always holds of a desk: its world is sound, its damage covers each place at which the virtual screen shows
-- something else than the search from the top finds, and it keeps the changes of each line.
use Rattle.std.specs.Prelude.{◌≡◌, ◌<◌}
use Rattle.compose.specs.Names.{ℕ, false, length, shown_at, AreColumnsWithin, IsSound, picture}
use Rattle.compose.specs.Desks.{DeskTable, damaged_columns, is_damaged_at, world}

pub record IsCovered (t : DeskTable) : Type 0 where
  pub height : length t.damage ≡ t.windows.lines
  pub within : (y : ℕ) → AreColumnsWithin t.windows.columns (damaged_columns t y)
  pub shown : (y x : ℕ) → y < t.windows.lines → x < t.windows.columns → is_damaged_at t y x ≡ false
      → shown_at t.virtual.picture (y, x) ≡ picture (world t) y x

pub record IsDesk (t : DeskTable) : Type 0 where
  pub sound : IsSound (world t)
  pub covered : IsCovered t
  pub changes : length t.changes ≡ t.windows.lines
