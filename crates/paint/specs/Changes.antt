-- In which columns of each line a picture may differ from the one that was shown last.
use Rattle.std.specs.Prelude.{◌≡◌, ◌≤◌}
use Rattle.paint.specs.Names.{ℕ, Option, List, length, HasSize, Picture, LARGEST_SCREEN, Columns, DifferOnly}

-- a picture that is shown and one that is wanted, of one size, no larger than a screen, differ at no other place
pub record IsUpdate (lines columns : ℕ) (extents : List (Option Columns)) (old new : Picture) : Type 0 where
  pub few_lines : lines ≤ LARGEST_SCREEN
  pub few_columns : columns ≤ LARGEST_SCREEN
  pub height : length extents ≡ lines
  pub shown : HasSize lines columns old
  pub wanted : HasSize lines columns new
  pub changes : DifferOnly extents old new
