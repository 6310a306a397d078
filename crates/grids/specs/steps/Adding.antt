-- A window or pad that is added to a table.
use Rattle.std.specs.Prelude.{◌≡◌, ◌+◌, ◌<◌, ◌≤◌}
use Rattle.grids.specs.Names.{ℕ, Option, Some, None, IsSomeAnd, MatchOption, ⊤, Place, LARGEST_PAD, Backing, part_of, IsOnScreen, blank_grid, new_window, place_from}
use Rattle.grids.specs.declared.slot.Part.{Part}
use Rattle.grids.specs.Slots.{slot_at}
use Rattle.grids.specs.Tables.{WindowTable}

-- the part is inside its parent, and the place is that of the part
abbrev pub FitsParent : WindowTable → ℕ → ℕ → Option Place → Part → Type 0
FitsParent t lines columns place part =
    IsSomeAnd (slot_at t.slots part.parent) (λ k. (part.line + lines ≤ k.lines) × (part.column + columns ≤ k.columns) × (place ≡ place_from k.place part.line part.column))

-- a window of this size fits at this place of the screen, if it has one, and in its parent, if it has one
pub record FitsTable (t : WindowTable) (lines columns : ℕ) (place : Option Place) (part : Option Part) : Type 0 where
  pub has_line : 0 < lines
  pub has_column : 0 < columns
  pub few_lines : lines ≤ LARGEST_PAD
  pub few_columns : columns ≤ LARGEST_PAD
  pub parent : MatchOption part ⊤ (FitsParent t lines columns place)
  pub placed : IsOnScreen t.lines t.columns (new_window lines columns place blank_grid)

-- a part of a parent, or a blank grid
abbrev pub backing_by : Option Part → Backing
backing_by None = blank_grid
backing_by (Some part) = part_of part.parent part.line part.column
