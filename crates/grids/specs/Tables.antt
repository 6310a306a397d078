-- The table of windows, and the windows that it represents.
use Rattle.std.specs.Prelude.{◌+◌, ◌<◌, ◌≤◌}
use Rattle.grids.specs.Names.{ℕ, List, length, Option, MatchOption, IsSomeAnd, ⊤, LARGEST_SCREEN, MOST_WINDOWS, Windows, standard_screen, IsOnScreen, IsStandardScreen}
use Rattle.grids.specs.KeptSlots.{Kept, window_of}
use Rattle.grids.specs.Slots.{slot_at, window_map, AreOrigins, IsChained}

-- a screen of this size, and a slot for each number from 0 on that was given so far
pub record WindowTable : Type 0 where
  pub lines : ℕ
  pub columns : ℕ
  pub slots : List (Option Kept)

abbrev pub windows : WindowTable → Windows
windows t = record { lines = t.lines; columns = t.columns; window = window_map t.slots }

-- the standard screen is there, each slot has its shape and its origin, and each window with a place lies on the screen
pub record IsWindowTable (t : WindowTable) : Type 0 where
  pub some_slot : 0 < length t.slots
  pub few_slots : length t.slots ≤ MOST_WINDOWS + 1
  pub has_line : 0 < t.lines
  pub has_column : 0 < t.columns
  pub few_lines : t.lines ≤ LARGEST_SCREEN
  pub few_columns : t.columns ≤ LARGEST_SCREEN
  pub standard : IsSomeAnd (slot_at t.slots standard_screen) (λ k. IsStandardScreen (windows t) (window_of k))
  pub chained : IsChained t.slots
  pub origins : AreOrigins t.slots
  pub placed : (w : ℕ) → MatchOption (slot_at t.slots w) ⊤ (λ k. IsOnScreen t.lines t.columns (window_of k))
