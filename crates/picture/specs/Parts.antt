-- Rectangles of the screen, both ends inclusive, and pieces of a window's line.
use Rattle.std.specs.Prelude.{◌≡◌, ◌+◌, ◌<◌, ◌&&◌}
use Rattle.picture.specs.Names.{ℕ, Bool, false, nat_le, Option, List, length, slice_index_or, option_map_or, Glyph, blank, Rect, WindowMap, cell_at}

-- the rectangle has the line
abbrev pub frame_has_line : Rect → ℕ → Bool
frame_has_line r y = nat_le r.top y && nat_le y r.bottom

-- the rectangle holds the place
abbrev pub frame_holds : Rect → ℕ → ℕ → Bool
frame_holds r y x = frame_has_line r y && (nat_le r.left x && nat_le x r.right)

-- the same of one that may be none
abbrev pub part_holds : Option Rect → ℕ → ℕ → Bool
part_holds part y x = option_map_or (λ r. frame_holds r y x) part false

-- the rectangle lies on a screen of this size
pub record IsFrameWithin (lines columns : ℕ) (r : Rect) : Type 0 where
  pub bottom : r.bottom < lines
  pub ordered : r.left < r.right + 1
  pub right : r.right < columns

-- these cells are those that window w shows on line y from a column on
pub record IsPiece (window : WindowMap) (w y left n : ℕ) (cells : List Glyph) : Type 0 where
  pub number : length cells ≡ n
  pub each : (k : ℕ) → k < n → slice_index_or cells k blank ≡ cell_at window w y (left + k)
