-- What drawings do to two small windows, for a reader of the definitions. Each has three lines of three letters, window 0 lower-case ones
-- and window 1 capitals. After each drawing come drawings with one argument changed, which are others.
use Rattle.std.specs.Prelude.{◌≡◌, ◌++◌, ◌+◌, ◌*◌}
use Rattle.windows.specs.{ℕ, List, Some, None, true, false, refl, codes, map, is_some, negsuc, pos, Glyph, origin, Drawing, Window, WindowMap, Windows, no_windows, own_grid, put, with_window}
use Rattle.windows.specs.{window_limit, first_settings, line_shown, at_place, character_deleted, character_inserted, everywhere, lines_down, lines_up, to_bottom, to_end_of_line, scrl_drawing}

letter : ℕ → Glyph
letter character = record { character = character; attributes = 0; pair = 0 }

star : Glyph
unfolding letter
star = letter 42

-- three lines of three letters, from this one on
lettered : ℕ → Window
unfolding letter
lettered first = record {
  lines = 3;
  columns = 3;
  place = Some origin;
  settings = first_settings 3;
  touched = λ y. None;
  backing = own_grid (λ y x. letter (first + (y * 3 + x)));
}

small : Windows
unfolding lettered
small = record { lines = 3; columns = 3; window = with_window (with_window no_windows 0 (Some (lettered 97))) 1 (Some (lettered 65)) }

text : WindowMap → ℕ → List ℕ
text window w =
    let line = λ (y : ℕ). map (λ (g : Glyph). g.character) (line_shown window w y) in
    line 0 ++ line 1 ++ line 2

-- a drawing in a window leaves these texts, first that of window 0
abbrev leaves_texts : ℕ → Drawing → List ℕ → List ℕ → Type 0
leaves_texts w drawing first second = (text (put small w drawing).window 0 ≡ first) × (text (put small w drawing).window 1 ≡ second)

no_drawing : (text small.window 0 ≡ codes "abcdefghi") × (text small.window 1 ≡ codes "ABCDEFGHI")
unfolding text small lettered letter window_limit
no_drawing = (refl, refl)

-- one cell at line 1 and column 2
cell_set :
    leaves_texts 1 (at_place (1, 2) star) (codes "abcdefghi") (codes "ABCDE*GHI")
    × leaves_texts 0 (at_place (1, 2) star) (codes "abcde*ghi") (codes "ABCDEFGHI")
    × leaves_texts 1 (at_place (0, 2) star) (codes "abcdefghi") (codes "AB*DEFGHI")
    × leaves_texts 1 (at_place (1, 0) star) (codes "abcdefghi") (codes "ABC*EFGHI")
    × leaves_texts 1 (at_place (2, 1) star) (codes "abcdefghi") (codes "ABCDEFG*I")
unfolding text small lettered letter star window_limit
cell_set = ((refl, refl), (refl, refl), (refl, refl), (refl, refl), (refl, refl))

-- a cell inserted at line 2 and column 1
cell_inserted :
    leaves_texts 1 (character_inserted small.window 1 (2, 1) star) (codes "abcdefghi") (codes "ABCDEFG*H")
    × leaves_texts 0 (character_inserted small.window 0 (2, 1) star) (codes "abcdefg*h") (codes "ABCDEFGHI")
    × leaves_texts 1 (character_inserted small.window 1 (0, 1) star) (codes "abcdefghi") (codes "A*BDEFGHI")
    × leaves_texts 1 (character_inserted small.window 1 (2, 0) star) (codes "abcdefghi") (codes "ABCDEF*GH")
    × leaves_texts 1 (character_inserted small.window 1 (1, 2) star) (codes "abcdefghi") (codes "ABCDE*GHI")
unfolding text small lettered letter star window_limit
cell_inserted = ((refl, refl), (refl, refl), (refl, refl), (refl, refl), (refl, refl))

-- the cell at line 2 and column 1 deleted, and all cells
cells_cleared :
    leaves_texts 1 (character_deleted small.window 1 (2, 1) 2 star) (codes "abcdefghi") (codes "ABCDEFGI*")
    × leaves_texts 1 (everywhere star) (codes "abcdefghi") (codes "*********")
unfolding text small lettered letter star window_limit
cells_cleared = ((refl, refl), (refl, refl))

-- from line 2 and column 1 to the end of the line
line_cleared :
    leaves_texts 1 (to_end_of_line (2, 1) star) (codes "abcdefghi") (codes "ABCDEFG**")
    × leaves_texts 0 (to_end_of_line (2, 1) star) (codes "abcdefg**") (codes "ABCDEFGHI")
    × leaves_texts 1 (to_end_of_line (0, 1) star) (codes "abcdefghi") (codes "A**DEFGHI")
    × leaves_texts 1 (to_end_of_line (2, 0) star) (codes "abcdefghi") (codes "ABCDEF***")
    × leaves_texts 1 (to_end_of_line (1, 2) star) (codes "abcdefghi") (codes "ABCDE*GHI")
unfolding text small lettered letter star window_limit
line_cleared = ((refl, refl), (refl, refl), (refl, refl), (refl, refl), (refl, refl))

-- from line 1 and column 2 to the bottom
bottom_cleared :
    leaves_texts 1 (to_bottom (1, 2) star) (codes "abcdefghi") (codes "ABCDE****")
    × leaves_texts 0 (to_bottom (1, 2) star) (codes "abcde****") (codes "ABCDEFGHI")
    × leaves_texts 1 (to_bottom (0, 2) star) (codes "abcdefghi") (codes "AB*******")
    × leaves_texts 1 (to_bottom (1, 0) star) (codes "abcdefghi") (codes "ABC******")
    × leaves_texts 1 (to_bottom (2, 1) star) (codes "abcdefghi") (codes "ABCDEFG**")
unfolding text small lettered letter star window_limit
bottom_cleared = ((refl, refl), (refl, refl), (refl, refl), (refl, refl), (refl, refl))

-- the lines from 1 to 2 up by one
lines_moved_up :
    leaves_texts 1 (lines_up small.window 1 1 2 1 star) (codes "abcdefghi") (codes "ABCGHI***")
    × leaves_texts 0 (lines_up small.window 0 1 2 1 star) (codes "abcghi***") (codes "ABCDEFGHI")
    × leaves_texts 1 (lines_up small.window 1 0 2 1 star) (codes "abcdefghi") (codes "DEFGHI***")
    × leaves_texts 1 (lines_up small.window 1 1 0 1 star) (codes "abcdefghi") (codes "ABCDEFGHI")
    × leaves_texts 1 (lines_up small.window 1 1 2 0 star) (codes "abcdefghi") (codes "ABCDEFGHI")
    × leaves_texts 1 (lines_up small.window 1 2 1 1 star) (codes "abcdefghi") (codes "ABCDEFGHI")
    × leaves_texts 1 (lines_up small.window 1 1 1 2 star) (codes "abcdefghi") (codes "ABC***GHI")
unfolding text small lettered letter star window_limit
lines_moved_up = ((refl, refl), (refl, refl), (refl, refl), (refl, refl), (refl, refl), (refl, refl), (refl, refl))

-- the lines from 1 to 2 down by one
lines_moved_down :
    leaves_texts 1 (lines_down small.window 1 1 2 1 star) (codes "abcdefghi") (codes "ABC***DEF")
    × leaves_texts 0 (lines_down small.window 0 1 2 1 star) (codes "abc***def") (codes "ABCDEFGHI")
    × leaves_texts 1 (lines_down small.window 1 0 2 1 star) (codes "abcdefghi") (codes "***ABCDEF")
    × leaves_texts 1 (lines_down small.window 1 1 0 1 star) (codes "abcdefghi") (codes "ABCDEFGHI")
    × leaves_texts 1 (lines_down small.window 1 1 2 0 star) (codes "abcdefghi") (codes "ABCDEFGHI")
    × leaves_texts 1 (lines_down small.window 1 2 1 1 star) (codes "abcdefghi") (codes "ABCDEFGHI")
    × leaves_texts 1 (lines_down small.window 1 1 1 2 star) (codes "abcdefghi") (codes "ABC***GHI")
unfolding text small lettered letter star window_limit
lines_moved_down = ((refl, refl), (refl, refl), (refl, refl), (refl, refl), (refl, refl), (refl, refl), (refl, refl))

-- the scroll region, which is the whole window
scrolled_up :
    leaves_texts 1 (scrl_drawing small.window 1 (pos 1) (lettered 65)) (codes "abcdefghi") (codes "DEFGHI   ")
    × leaves_texts 0 (scrl_drawing small.window 0 (pos 1) (lettered 97)) (codes "defghi   ") (codes "ABCDEFGHI")
    × leaves_texts 1 (scrl_drawing small.window 1 (pos 0) (lettered 65)) (codes "abcdefghi") (codes "ABCDEFGHI")
    × leaves_texts 1 (scrl_drawing small.window 1 (negsuc 0) (lettered 65)) (codes "abcdefghi") (codes "   ABCDEF")
unfolding text small lettered letter star window_limit
scrolled_up = ((refl, refl), (refl, refl), (refl, refl), (refl, refl))

-- which windows there are

windows_0_and_1 : (is_some (small.window 0) ≡ true) × (is_some (small.window 1) ≡ true) × (is_some (small.window 2) ≡ false)
unfolding small lettered letter
windows_0_and_1 = (refl, refl, refl)
