-- The cells of one line of a window: what is read, and the three writes of which each call's write is made.
-- X/Open Curses Issue 7: "Characters"; copywin, overlay.
use Rattle.std.specs.Prelude.{◌+◌, ◌-◌, if◌then◌else◌, ◌==◌, ◌&&◌}
use Rattle.world.specs.Names.{ℕ, Bool, nat_lt, nat_le, Option, Some, None, List, [], length, slice_index_or, map, range_with_len, option_map_or, Glyph, blank}
use Rattle.world.specs.WindowMaps.{WindowMap, Drawing, cell_at}

-- x is one of n numbers from a first one on
abbrev pub is_among : ℕ → ℕ → ℕ → Bool
is_among first n x = nat_le first x && nat_lt x (first + n)

-- the cells that window w shows on line y
abbrev pub line_shown : WindowMap → ℕ → ℕ → List Glyph
line_shown window w y = option_map_or (λ a. map (λ x. cell_at window w y x) (range_with_len 0 a.columns)) (window w) []

-- one cell in the columns from left to right of a line, both ends inclusive
abbrev pub filled_cells : ℕ → ℕ → ℕ → Glyph → Drawing
filled_cells line left right glyph y x = if (y == line) && (nat_le left x && nat_le x right) then Some glyph else None

-- the cells of a list, in a line from column left on
abbrev pub listed_cells : ℕ → ℕ → List Glyph → Drawing
listed_cells line left cells y x = if y == line && is_among left (length cells) x then Some (slice_index_or cells (x - left) blank) else None

-- the cell, unless it is a space and spaces are left out
abbrev pub overlaid_cell : Bool → Glyph → Option Glyph
overlaid_cell overlay glyph = if overlay && (glyph.character == 32) then None else Some glyph

-- n cells of line sy of window src from column sx on, for line dy from column dx on
abbrev pub copied_cells : WindowMap → ℕ → ℕ → ℕ → ℕ → ℕ → ℕ → Bool → Drawing
copied_cells window src sy sx dy dx n overlay y x =
    if y == dy && is_among dx n x then overlaid_cell overlay (cell_at window src sy (sx + (x - dx))) else None
