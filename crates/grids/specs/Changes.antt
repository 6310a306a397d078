-- What changes where one slot changes.
use Rattle.std.specs.Prelude.{◌≡◌, ◌≢◌, ◌+◌, ◌<◌, ◌≤◌, if◌then◌else◌, ◌==◌, ◌-◌, ◌&&◌}
use Rattle.grids.specs.Names.{ℕ, Bool, List, length, Option, Some, None, is_some, max, slice_set, MOST_WINDOWS, joined_columns, Window, Drawing, laid_over, Backing, cell_of, is_among}
use Rattle.grids.specs.declared.slot.Cells.{Cells}
use Rattle.grids.specs.declared.slot.Cells.TheVariants.{Own, Shared}
use Rattle.grids.specs.KeptSlots.{Kept, IsKept}
use Rattle.grids.specs.Slots.{slot_at, window_map, AreOrigins, IsChained, part_in}

-- what a derived window sees of its parent is the same
pub record SameShape (old new : Kept) : Type 0 where
  pub lines : new.lines ≡ old.lines
  pub columns : new.columns ≡ old.columns
  pub place : is_some new.place ≡ is_some old.place
  pub depth : new.depth ≡ old.depth

-- the window is the same part of its parent, and leads to the same place
pub record SamePart (old new : Kept) : Type 0 where
  pub part : part_in new.cells ≡ part_in old.cells
  pub origin : new.origin ≡ old.origin

-- the slot keeps its shape, is the same part of its parent, and leads to the same place
pub record StaysInPlace (old new : Kept) : Type 0 where
  pub shape : SameShape old new
  pub part : SamePart old new
  pub kept : IsKept new

-- one slot was changed, from what it was to what it is by a relation, in which an answer takes part
pub record ChangedBy {R : Type 0} (relation : Kept → R → Kept → Type 0) (old new : List (Option Kept)) (at : ℕ) (answer : R) : Type 0 where
  pub before : Kept
  pub after : Kept
  pub was : slot_at old at ≡ Some before
  pub set : new ≡ slice_set old at (Some after)
  pub changed : relation before answer after

-- another offset of a derived window in its parent
abbrev pub with_new_offset : ℕ → ℕ → Cells → Cells
with_new_offset y x (Own sheet) = Own sheet
with_new_offset y x (Shared part) = Shared (record part { line = y; column = x })

-- each slot has its origin, and its window is as it was
pub record Settled (old new : List (Option Kept)) : Type 0 where
  pub size : length new ≡ length old
  pub windows : window_map new ≡ window_map old
  pub chained : IsChained new
  pub origins : AreOrigins new

-- one slot has another window, or none, no other slot changed, and the list grew only to hold it
pub record SetAt (old new : List (Option Kept)) (at : ℕ) (o : Option Kept) : Type 0 where
  pub here : slot_at new at ≡ o
  pub others : (w : ℕ) → w ≢ at → slot_at new w ≡ slot_at old w
  pub size : length new ≡ max (length old) (at + 1)
  pub few : length new ≤ MOST_WINDOWS + 1

-- the columns from left to right are touched, of the lines that pass a test, and of one line
abbrev pub with_touched_lines : (ℕ → Bool) → ℕ → ℕ → Window → Window
with_touched_lines test left right a = record a { touched = λ y. if test y then joined_columns (a.touched y) left right else a.touched y }

abbrev pub with_touched : ℕ → ℕ → ℕ → Window → Window
with_touched line = with_touched_lines (λ y. y == line)

-- a drawing is laid over a window's grid
abbrev pub with_drawing : Drawing → Window → Window
with_drawing f a = record a { backing = laid_over f a.backing }

-- so many lines and columns of a grid from one place on, for another
abbrev pub block_copied : Backing → ℕ → ℕ → ℕ → ℕ → ℕ → ℕ → Drawing
block_copied grid sy sx dy dx lines columns y x =
    if is_among dy lines y && is_among dx columns x then Some (cell_of grid (sy + (y - dy)) (sx + (x - dx))) else None

-- they are copied within a window's grid
abbrev pub with_block_copied : ℕ → ℕ → ℕ → ℕ → ℕ → ℕ → Window → Window
with_block_copied sy sx dy dx lines columns a = with_drawing (block_copied a.backing sy sx dy dx lines columns) a

-- the number is free, and the next one at most
pub record IsFree (slots : List (Option Kept)) (number : ℕ) : Type 0 where
  pub free : slot_at slots number ≡ None
  pub from_one : 0 < number
  pub few : number ≤ MOST_WINDOWS
  pub next : number ≤ length slots
