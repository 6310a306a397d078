-- Lines of cells: a sheet of what a window's grid holds, and a picture of what a screen or a terminal shows. Lines and
-- columns count from 0, as in X/Open Curses Issue 7 ("Screens, Windows and Terminals").
use Rattle.std.specs.Prelude.{◌≡◌}
use Rattle.cell.specs.Names.{ℕ, nat_lt, Bool, List, [], length, map, replicate, slice_index_or, slice_set, AllByRecursion, range_with_len}
use Rattle.cell.specs.Glyphs.{Glyph, blank, IsCell}
use Rattle.cell.specs.ShownCells.{Shown, shown_blank, IsShown}

-- a line and a column
abbrev pub Place : Type 0
Place = ℕ × ℕ

abbrev pub origin : Place
origin = (0, 0)

-- lines of glyphs, one below the other
abbrev pub Sheet : Type 0
Sheet = List (List Glyph)

-- lines of shown cells, one below the other
abbrev pub Picture : Type 0
Picture = List (List Shown)

-- ---- lines of any cells

-- no cells where there is no such line
abbrev pub line_of : {A : Type 0} → List (List A) → ℕ → List A
line_of lines line = slice_index_or lines line []

abbrev pub is_place : {A : Type 0} → List (List A) → Place → Bool
is_place lines place = nat_lt place.1 (length (line_of lines place.0))

-- the cell at a place, or a given one where there is no such place
abbrev pub cell_or : {A : Type 0} → A → List (List A) → Place → A
cell_or other lines place = slice_index_or (line_of lines place.0) place.1 other

-- the lines with another cell at a place
abbrev pub with_cell : {A : Type 0} → List (List A) → Place → A → List (List A)
with_cell lines place cell = slice_set lines place.0 (slice_set (line_of lines place.0) place.1 cell)

-- so many lines of so many columns
pub record HasSize {A : Type 0} (lines columns : ℕ) (cells : List (List A)) : Type 0 where
  pub height : length cells ≡ lines
  pub width : AllByRecursion (λ line. length line ≡ columns) cells

-- how many lines, and how many columns the first has
abbrev pub size_of : {A : Type 0} → List (List A) → ℕ × ℕ
size_of lines = (length lines, length (line_of lines 0))

-- each cell passes the test
abbrev pub EachCell : {A : Type 0} → (A → Type 0) → List (List A) → Type 0
EachCell Is lines = AllByRecursion (AllByRecursion Is) lines

-- one cell everywhere
abbrev pub all_of : {A : Type 0} → A → ℕ → ℕ → List (List A)
all_of cell lines columns = replicate lines (replicate columns cell)

-- at each place the cell that a function says
abbrev pub lines_from : {A : Type 0} → ℕ → ℕ → (ℕ → ℕ → A) → List (List A)
lines_from lines columns cell = map (λ y. map (λ x. cell y x) (range_with_len 0 columns)) (range_with_len 0 lines)

-- ---- sheets

-- the glyph at a place, a blank where there is no such place
abbrev pub glyph_at : Sheet → Place → Glyph
glyph_at sheet place = cell_or blank sheet place

abbrev pub AreCells : Sheet → Type 0
AreCells sheet = EachCell IsCell sheet

abbrev pub blank_sheet : ℕ → ℕ → Sheet
blank_sheet lines columns = all_of blank lines columns

-- ---- pictures

-- what is shown at a place, a blank where there is no such place
abbrev pub shown_at : Picture → Place → Shown
shown_at picture place = cell_or shown_blank picture place

-- the picture with another cell at a place
abbrev pub with_shown : Picture → Place → Shown → Picture
with_shown picture place shown = with_cell picture place shown

abbrev pub AreShown : Picture → Type 0
AreShown picture = EachCell IsShown picture

abbrev pub blank_picture : ℕ → ℕ → Picture
blank_picture lines columns = all_of shown_blank lines columns

-- the picture of that size which shows at each place what a function says of it
abbrev pub picture_of : ℕ → ℕ → (ℕ → ℕ → Shown) → Picture
picture_of lines columns shown = lines_from lines columns shown
