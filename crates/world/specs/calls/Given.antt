-- Cells that a program gives as numbers, written as they are: one in a rectangle, and a row of them in a line. Each has
-- its tests and its effect, as a call has.
-- X/Open Curses Issue 7: addchstr (the cursor stays, and nothing wraps). The rectangle, the numbers and the order of the
-- tests are Curspan's own.
use Rattle.std.specs.Prelude.{◌+◌, ◌/◌, ◌&&◌, ◌||◌, ◌∷◌}
use Rattle.world.specs.Names.{ℕ, Bool, false, not, nat_lt, nat_le, None, List, [], length, list_any, map, option_map_or, is_printable, character_of, given_cell}
use Rattle.world.specs.Names.{Rect, Refusal, BadCharacter, BadPair, BadRectangle, OutsideWindow}
use Rattle.world.specs.WindowMaps.{WindowMap, Windows}
use Rattle.world.specs.Rows.{listed_cells}
use Rattle.world.specs.Drawings.{rectangle_filled}
use Rattle.world.specs.Worlds.{World}
use Rattle.world.specs.Effects.{Edit, draws, edits, changes, arranges, after}
use Rattle.world.specs.calls.Rules.{missing_window}
use Rattle.world.specs.calls.Writing.{is_no_pair, lacks_place}

-- ---- what no number of a cell has

abbrev pub gives_no_character : ℕ → Bool
gives_no_character number = not (is_printable (character_of number))

abbrev pub gives_no_pair : ℕ → Bool
gives_no_pair number = is_no_pair (number / 65536)

-- ---- one cell in a rectangle

abbrev pub fill_tests : Windows → ℕ → Rect → ℕ → List (Bool × Refusal)
fill_tests windows w r number =
    missing_window windows w
    ∷ (nat_lt r.bottom r.top || nat_lt r.right r.left, BadRectangle)
    ∷ (lacks_place windows.window w r.bottom r.right, OutsideWindow)
    ∷ (gives_no_character number, BadCharacter)
    ∷ (gives_no_pair number, BadPair)
    ∷ []

abbrev pub fill_edit : ℕ → Rect → ℕ → Edit
fill_edit w r number = draws w (λ a. rectangle_filled r (given_cell number)) None

-- ---- a row of cells

-- the window hasn't the line, or not so many columns from a first one on
abbrev pub lacks_row : WindowMap → ℕ → ℕ → ℕ → ℕ → Bool
lacks_row window w y x n = option_map_or (λ a. not (nat_lt y a.lines && nat_le (x + n) a.columns)) (window w) false

abbrev pub put_tests : Windows → ℕ → ℕ → ℕ → List ℕ → List (Bool × Refusal)
put_tests windows w y x numbers =
    missing_window windows w
    ∷ (lacks_row windows.window w y x (length numbers), OutsideWindow)
    ∷ (list_any gives_no_character numbers, BadCharacter)
    ∷ (list_any gives_no_pair numbers, BadPair)
    ∷ []

abbrev pub put_edit : ℕ → ℕ → ℕ → List ℕ → Edit
put_edit w y x numbers = draws w (λ a. listed_cells y x (map given_cell numbers)) None

-- ---- what follows

-- the world after an edit alone
abbrev pub world_edited : World → Edit → World
world_edited world edit = after world (arranges (changes (edits edit)))
