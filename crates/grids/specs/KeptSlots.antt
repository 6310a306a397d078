-- What a slot keeps of a window, and the window that it represents.
use Rattle.std.specs.Prelude.{◌≡◌, ◌<◌, ◌≤◌}
use Rattle.grids.specs.Names.{ℕ, Option, None, List, length, slice_index_or, ⊤, Place, HasSize, AreCells, glyph_at, LARGEST_PAD, Backing, own_grid, part_of, Window, AreColumnsWithin}
use Rattle.grids.specs.Names.{AreSettingsWithin, Columns, Settings}
use Rattle.grids.specs.declared.slot.Cells.{Cells}
use Rattle.grids.specs.declared.slot.Cells.TheVariants.{Own, Shared}
use Rattle.grids.specs.declared.slot.Origin.{Origin}

-- depth counts the ancestors, origin is the place of a grid to which the first place leads
pub record Kept : Type 0 where
  pub lines : ℕ
  pub columns : ℕ
  pub place : Option Place
  pub settings : Settings
  pub touched : List (Option Columns)
  pub depth : ℕ
  pub origin : Origin
  pub cells : Cells

abbrev pub backing_of : Cells → Backing
backing_of (Own sheet) = own_grid (λ y x. glyph_at sheet (y, x))
backing_of (Shared part) = part_of part.parent part.line part.column

abbrev pub window_of : Kept → Window
window_of k = record {
  lines = k.lines;
  columns = k.columns;
  place = k.place;
  settings = k.settings;
  touched = λ y. slice_index_or k.touched y None;
  backing = backing_of k.cells;
}

-- a grid has each of its cells
abbrev pub IsGridOf : ℕ → ℕ → Cells → Type 0
IsGridOf lines columns (Own sheet) = HasSize lines columns sheet × AreCells sheet
IsGridOf lines columns (Shared part) = ⊤

-- the size is a pad's at most, each line has its touched columns, and cursor, region and grid are of that size
pub record HasShape (lines columns : ℕ) (set_to : Settings) (by_line : List (Option Columns)) (cells : Cells) : Type 0 where
  pub has_line : 0 < lines
  pub has_column : 0 < columns
  pub few_lines : lines ≤ LARGEST_PAD
  pub few_columns : columns ≤ LARGEST_PAD
  pub touched_each : length by_line ≡ lines
  pub touched : (y : ℕ) → AreColumnsWithin columns (slice_index_or by_line y None)
  pub settings : AreSettingsWithin lines columns set_to
  pub grid : IsGridOf lines columns cells

abbrev pub IsKept : Kept → Type 0
IsKept k = HasShape k.lines k.columns k.settings k.touched k.cells
