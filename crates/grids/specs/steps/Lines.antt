-- A line of a window, and where it is in a grid.
use Rattle.std.specs.Prelude.{◌≡◌, ◌<◌}
use Rattle.grids.specs.Names.{ℕ, List, Option, Some, GridPlace, own}
use Rattle.grids.specs.KeptSlots.{Kept}
use Rattle.grids.specs.Slots.{IsRoot, columns_at, lines_at, window_map}

-- the first place of window win led to this place of a grid and still does, and the window has line y up to column right
pub record HasLine (old new : List (Option Kept)) (win y right : ℕ) (place : GridPlace) : Type 0 where
  pub leads : own (window_map old) win 0 0 ≡ Some place
  pub root : IsRoot new win place
  pub line : y < lines_at new win
  pub column : right < columns_at new win
