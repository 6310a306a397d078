-- Of each line of a screen the columns from a first to a last, or none; and pictures that differ only there.
use Rattle.std.specs.Prelude.{◌≡◌, ℕ, ◌<◌, ◌≤◌, Bool, false, Option, None, List, length, is_some, slice_index_or}
use Rattle.cell.specs.Pictures.{Picture, shown_at}
use Rattle.cell.specs.declared.limits.TheConstants.{LARGEST_SCREEN}
use Rattle.small_set.specs.Sets.{contains}
use Rattle.world.specs.calls.Refresh.{among}
use Rattle.world.specs.declared.settings.Columns.{Columns}

-- the columns of a line
abbrev pub columns_of : List (Option Columns) → ℕ → Option Columns
columns_of extents y = slice_index_or extents y None

-- the line has some
abbrev pub has_columns : List (Option Columns) → ℕ → Bool
has_columns extents y = is_some (columns_of extents y)

-- the place is among them
abbrev pub is_among : List (Option Columns) → ℕ → ℕ → Bool
is_among extents y x = among (columns_of extents y) x

-- a set of lines is that of those that have some, and there are no more lines than a screen has
pub record AreExtents (some : List ℕ) (extents : List (Option Columns)) : Type 0 where
  pub few : length extents ≤ LARGEST_SCREEN
  pub lines : (y : ℕ) → contains some y ≡ has_columns extents y

-- Some of a line's columns, from the first up to the second, which isn't one of them: no other is among these.
pub record IsWithin (count : ℕ) (columns : Option Columns) (part : ℕ × ℕ) : Type 0 where
  pub ordered : part.0 ≤ part.1
  pub inside : part.1 ≤ count
  pub before : (x : ℕ) → x < part.0 → among columns x ≡ false
  pub after : (x : ℕ) → part.1 ≤ x → x < count → among columns x ≡ false

-- ---- pictures

-- at every other place two pictures show the same
pub record DifferOnly (extents : List (Option Columns)) (one other : Picture) : Type 0 where
  pub others : (y x : ℕ) → is_among extents y x ≡ false → shown_at one (y, x) ≡ shown_at other (y, x)

-- What changed of a picture was added to the changes that there were: a place that isn't among them now wasn't before,
-- and shows what it showed before.
pub record AddsChanges (old : List (Option Columns)) (before : Picture) (new : List (Option Columns)) (after : Picture) : Type 0 where
  pub height : length new ≡ length old
  pub keeps : (y x : ℕ) → is_among new y x ≡ false → is_among old y x ≡ false
  pub same : (y x : ℕ) → is_among new y x ≡ false → shown_at after (y, x) ≡ shown_at before (y, x)
