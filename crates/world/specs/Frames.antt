-- The rectangle that a drawing covers in a window: the smallest that holds each place of the window for which the
-- drawing has a cell.
-- The functions of `windows` that write answer it; X/Open Curses has no such answer.
use Rattle.std.specs.Prelude.{◌≡◌, ◌<◌, ◌≤◌, if◌then◌else◌}
use Rattle.world.specs.Names.{ℕ, zero, suc, min, max, true, Option, Some, None, is_some, IsSomeAnd, Rect}
use Rattle.world.specs.WindowMaps.{Drawing, Window}

-- the smallest rectangle that holds two
abbrev pub frame_of_two : Option Rect → Option Rect → Option Rect
frame_of_two None b = b
frame_of_two (Some a) None = Some a
frame_of_two (Some a) (Some b) = Some (record { top = min a.top b.top; left = min a.left b.left; bottom = max a.bottom b.bottom; right = max a.right b.right })

-- one place
abbrev pub frame_at : ℕ → ℕ → Option Rect
frame_at y x = Some (record { top = y; left = x; bottom = y; right = x })

-- of what a drawing has on line y before column n
unfoldable pub frame_in_line : Drawing → ℕ → ℕ → Option Rect
frame_in_line f y zero = None
frame_in_line f y (suc n) = frame_of_two (frame_in_line f y n) (if is_some (f y n) then frame_at y n else None)

-- of what a drawing has in so many columns before line n
unfoldable pub frame_above : Drawing → ℕ → ℕ → Option Rect
frame_above f columns zero = None
frame_above f columns (suc n) = frame_of_two (frame_above f columns n) (frame_in_line f n columns)

-- the rectangle of a drawing, or none if it has no cell for the window
abbrev pub frame_of : Window → Drawing → Option Rect
frame_of a f = frame_above f a.columns a.lines

-- ---- what it is

-- the drawing has a cell for the place (y, x) of the window
pub record Covers (f : Drawing) (columns lines y x : ℕ) : Type 0 where
  pub below : y < lines
  pub left : x < columns
  pub some : is_some (f y x) ≡ true

-- the rectangle holds the place (y, x)
pub record IsIn (r : Rect) (y x : ℕ) : Type 0 where
  pub top : r.top ≤ y
  pub bottom : y ≤ r.bottom
  pub left : r.left ≤ x
  pub right : x ≤ r.right

-- the rectangle holds the places, and each of its sides has one of them
pub record IsSmallest (Has : ℕ → ℕ → Type 0) (r : Rect) : Type 0 where
  pub holds : (y x : ℕ) → Has y x → IsIn r y x
  pub top : (x : ℕ) × Has r.top x
  pub bottom : (x : ℕ) × Has r.bottom x
  pub left : (y : ℕ) × Has y r.left
  pub right : (y : ℕ) × Has y r.right

-- and there is none where there are no places
abbrev pub IsFrameOf : (ℕ → ℕ → Type 0) → Option Rect → Type 0
IsFrameOf Has None = (y x : ℕ) → Has y x → ⊥
IsFrameOf Has (Some r) = IsSmallest Has r

-- the places are all those of a rectangle, or there are none
abbrev pub AreRectangle : (ℕ → ℕ → Type 0) → Option Rect → Type 0
AreRectangle Has o = IsFrameOf Has o × ((y x : ℕ) → IsSomeAnd o (λ r. IsIn r y x) → Has y x)
