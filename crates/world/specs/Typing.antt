-- Typing characters in a window: what each draws, and where the cursor goes.
-- X/Open Curses Issue 7: addch, addstr. Where the cursor goes at the ends of lines and of the window, and what scrolls
-- then, is Curspan's own choice.
use Rattle.std.specs.Prelude.{◌+◌, ◌-◌, if◌then◌else◌, ◌==◌, ◌&&◌, ◌||◌, ◌∷◌}
use Rattle.world.specs.Names.{ℕ, Bool, nat_lt, List, [], fold, Place}
use Rattle.world.specs.WindowMaps.{Drawing, Window, WindowMap, Windows, drawing_if_there, if_there, no_cells, over, put}
use Rattle.world.specs.Settings.{set, with_cursor}
use Rattle.world.specs.Drawings.{written_glyph, at_place, to_end_of_line, lines_up}

-- ---- characters

abbrev pub backspace : ℕ
backspace = 8

abbrev pub newline : ℕ
newline = 10

abbrev pub carriage_return : ℕ
carriage_return = 13

-- ---- a drawing, and where the cursor goes then

-- window w with a drawing, and then with its cursor at a place
abbrev pub drawn_to : Windows → ℕ → Drawing → Place → Windows
drawn_to windows w f place = set (put windows w f) w (with_cursor place)

-- ---- the end of a line

-- a line from which the cursor goes to no next one: the region's last and the window's last
abbrev pub is_last_line : Window → ℕ → Bool
is_last_line a y = y == a.settings.region.1 || y + 1 == a.lines

-- the region scrolls where the cursor leaves its last line, if the window scrolls
abbrev pub scrolls : Window → Bool
scrolls a = a.settings.scrolling && a.settings.cursor.0 == a.settings.region.1

-- the region scrolled up by one line
abbrev pub region_up : WindowMap → ℕ → Window → Drawing
region_up window w a = lines_up window w a.settings.region.0 a.settings.region.1 1 a.settings.background

-- The cursor goes to column 0 of the next line. On the region's last line, if the window scrolls, the region goes up by
-- one line instead, and the cursor to column 0 there. On a last line that doesn't scroll it goes to `place`: for a
-- printed character where it was, for a newline column 0.
abbrev pub to_next_line : Windows → ℕ → Window → Place → Windows
to_next_line windows w a place =
    if scrolls a then drawn_to windows w (region_up windows.window w a) (a.settings.cursor.0, 0)
    else if is_last_line a a.settings.cursor.0 then set windows w (with_cursor place)
    else set windows w (with_cursor (a.settings.cursor.0 + 1, 0))

-- what is drawn then
abbrev pub next_line_drawing : WindowMap → ℕ → Window → Drawing
next_line_drawing window w a = if scrolls a then region_up window w a else no_cells

-- ---- one character

-- a character is printed at the cursor, which goes one column right, or from the last column to the next line
abbrev pub character_printed : Windows → ℕ → ℕ → Window → Windows
character_printed windows w character a =
    let glyph = at_place a.settings.cursor (written_glyph a.settings character) in
    if nat_lt (a.settings.cursor.1 + 1) a.columns then drawn_to windows w glyph (a.settings.cursor.0, a.settings.cursor.1 + 1)
    else to_next_line (put windows w glyph) w a a.settings.cursor

abbrev pub character_drawing : Windows → ℕ → ℕ → Window → Drawing
character_drawing windows w character a =
    let glyph = at_place a.settings.cursor (written_glyph a.settings character) in
    if nat_lt (a.settings.cursor.1 + 1) a.columns then glyph
    else over (next_line_drawing (put windows w glyph).window w a) glyph

-- a newline clears the line from the cursor on; at the end of a last line the cursor goes to column 0
abbrev pub line_ended : Windows → ℕ → Window → Windows
line_ended windows w a =
    to_next_line (put windows w (to_end_of_line a.settings.cursor a.settings.background)) w a (a.settings.cursor.0, 0)

abbrev pub line_ended_drawing : Windows → ℕ → Window → Drawing
line_ended_drawing windows w a =
    let rest = to_end_of_line a.settings.cursor a.settings.background in
    over (next_line_drawing (put windows w rest).window w a) rest

abbrev pub typed_in : Windows → ℕ → ℕ → Window → Windows
typed_in windows w character a =
    if character == newline then line_ended windows w a
    else if character == carriage_return then set windows w (with_cursor (a.settings.cursor.0, 0))
    else if character == backspace then set windows w (with_cursor (a.settings.cursor.0, a.settings.cursor.1 - 1))
    else character_printed windows w character a

abbrev pub typed_drawing : Windows → ℕ → ℕ → Window → Drawing
typed_drawing windows w character a =
    if character == newline then line_ended_drawing windows w a
    else if character == carriage_return || character == backspace then no_cells
    else character_drawing windows w character a

abbrev pub after_character : Windows → ℕ → ℕ → Windows
after_character windows w character = if_there windows w (typed_in windows w character)

abbrev pub drawing_of_character : Windows → ℕ → ℕ → Drawing
drawing_of_character windows w character = drawing_if_there windows w (typed_drawing windows w character)

-- ---- the characters of a text, in order

abbrev pub after_text : Windows → ℕ → List ℕ → Windows
after_text windows w text = fold (λ before character. after_character before w character) windows text

-- what they draw: each over what was drawn before it
abbrev pub text_drawing : Windows → ℕ → List ℕ → Drawing
text_drawing windows w [] = no_cells
text_drawing windows w (character ∷ text) = over (text_drawing (after_character windows w character) w text) (drawing_of_character windows w character)
