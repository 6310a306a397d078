-- What a desk keeps, and the world that it represents.
use Rattle.compose.specs.Names.{ℕ, Bool, Option, List, Pairs, VirtualScreen, World, Columns, WindowTable, windows, PanelTable, panels, columns_of, has_columns, is_among}

pub record DeskTable : Type 0 where
  pub windows : WindowTable
  pub panels : PanelTable
  pub pairs : Pairs
  pub virtual : VirtualScreen
  -- of each line the columns in which the virtual screen changed since its changes were last taken
  pub changes : List (Option Columns)
  -- of each line the columns that the next update_panels searches again
  pub damage : List (Option Columns)
  -- how many cells of windows update_panels has read, modulo 2^64
  pub cells_read : ℕ

abbrev pub world : DeskTable → World
world t = record { windows = windows t.windows; panels = panels t.panels; pairs = t.pairs; virtual = t.virtual }

-- ---- damage: where the virtual screen may show something else than the search from the top finds

-- the damaged columns of a line, from the first to the last, or none
abbrev pub damaged_columns : DeskTable → ℕ → Option Columns
damaged_columns t y = columns_of t.damage y

abbrev pub is_damaged_line : DeskTable → ℕ → Bool
is_damaged_line t y = has_columns t.damage y

abbrev pub is_damaged_at : DeskTable → ℕ → ℕ → Bool
is_damaged_at t y x = is_among t.damage y x
