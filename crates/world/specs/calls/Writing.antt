-- The calls that write in a window, or set how it is written in: each with its tests and its effect.
-- X/Open Curses Issue 7: move, addch to scrl, setscrreg, scrollok, clearok, attrset, attron, attroff, color_set,
-- bkgdset. `bkgdpair` is Curspan's own, and so is the order of the tests. Each call that clears does so to the
-- background.
use Rattle.std.specs.Prelude.{◌-◌, ◌==◌, ◌&&◌, ◌||◌, ◌∷◌}
use Rattle.world.specs.Names.{ℕ, zero, suc, ℤ, pos, negsuc, Bool, true, false, not, nat_lt, nat_le, Option, Some, None, List, [], list_any, option_map_or, bit_or, bits_of, valid_attributes, Glyph}
use Rattle.world.specs.Names.{is_printable, origin, first_of, LAST_PAIR, Refusal, OutsideWindow, BadRegion, BadCharacter, BadPair, ScrollingOff}
use Rattle.cell.specs.Attributes.{without}
use Rattle.world.specs.WindowMaps.{Drawing, Window, WindowMap, Windows}
use Rattle.world.specs.Settings.{with_cursor}
use Rattle.world.specs.Drawings.{written_glyph, character_inserted, character_deleted, to_end_of_line, to_bottom, everywhere, lines_up, lines_down}
use Rattle.world.specs.Typing.{backspace, carriage_return, newline}
use Rattle.world.specs.Effects.{Edit, sets, draws, types, after_edit, edit_window}
use Rattle.world.specs.calls.Rules.{missing_window}
use Rattle.world.specs.declared.written_calls.Writing.{Writing}
use Rattle.world.specs.declared.written_calls.Writing.TheVariants.{Move, Addch, Addstr, Insch, Delch, Insertln, Deleteln, Erase, Clear, Clrtoeol, Clrtobot, Scrl, Setscrreg, Scrollok, Clearok, Attrset}
use Rattle.world.specs.declared.written_calls.Writing.TheVariants.{Attron, Attroff, Bkgdset, ColorSet, Bkgdpair}
use Rattle.world.specs.declared.settings.Settings.{Settings}

-- ---- tests

-- the place isn't in the window
abbrev pub lacks_place : WindowMap → ℕ → ℕ → ℕ → Bool
lacks_place window w y x = option_map_or (λ a. not (nat_lt y a.lines && nat_lt x a.columns)) (window w) false

-- the pair is not in the table
abbrev pub is_no_pair : ℕ → Bool
is_no_pair pair = not (nat_le pair LAST_PAIR)

-- upside down, or past the window's last line
abbrev pub is_bad_region : WindowMap → ℕ → ℕ → ℕ → Bool
is_bad_region window w top bottom = option_map_or (λ a. nat_lt bottom top || nat_le a.lines bottom) (window w) false

-- neither printed nor one that moves the cursor
abbrev pub is_bad_character : ℕ → Bool
is_bad_character character = not (is_printable character || (character == backspace || (character == newline || character == carriage_return)))

abbrev pub is_not_scrolling : WindowMap → ℕ → Bool
is_not_scrolling window w = option_map_or (λ a. not a.settings.scrolling) (window w) false

-- the tests of a call after its first
abbrev pub further_tests : Windows → Writing → List (Bool × Refusal)
further_tests windows (Move win y x) = (lacks_place windows.window win.0 y x, OutsideWindow) ∷ []
further_tests windows (Addch win character) = (is_bad_character character, BadCharacter) ∷ []
further_tests windows (Addstr win text) = (list_any is_bad_character text.now, BadCharacter) ∷ []
further_tests windows (Insch win character) = (not (is_printable character), BadCharacter) ∷ []
further_tests windows (Scrl win n) = (is_not_scrolling windows.window win.0, ScrollingOff) ∷ []
further_tests windows (Setscrreg win top bottom) = (is_bad_region windows.window win.0 top bottom, BadRegion) ∷ []
further_tests windows (Bkgdset win attributes character) = (not (is_printable character), BadCharacter) ∷ []
further_tests windows (ColorSet win pair) = (is_no_pair pair, BadPair) ∷ []
further_tests windows (Bkgdpair win pair) = (is_no_pair pair, BadPair) ∷ []
further_tests windows writing = []

-- ---- settings

abbrev pub with_attributes : ℕ → Settings → Settings
with_attributes attributes settings = record settings { attrs = record { 0 = attributes } }

abbrev pub with_pair : ℕ → Settings → Settings
with_pair pair settings = record settings { pair = pair }

abbrev pub with_background : Glyph → Settings → Settings
with_background glyph settings = record settings { background = glyph }

-- of pair 0
abbrev pub with_new_background : ℕ → ℕ → Settings → Settings
with_new_background attributes character = with_background (record { character = character; attributes = valid_attributes attributes; pair = 0 })

-- the background's pair alone
abbrev pub with_background_pair : ℕ → Settings → Settings
with_background_pair pair settings = record settings { background = record settings.background { pair = pair } }

abbrev pub with_region : ℕ → ℕ → Settings → Settings
with_region top bottom settings = record settings { region = (top, bottom) }

abbrev pub with_scrolling : Bool → Settings → Settings
with_scrolling flag settings = record settings { scrolling = flag }

-- whether the window asks for a clear screen where it is next taken into the virtual screen
abbrev pub with_clear : Bool → Settings → Settings
with_clear flag settings = record settings { clear = flag }

-- clear asks for a clear screen too
abbrev pub after_clear : Settings → Settings
after_clear settings = with_clear true (with_cursor origin settings)

-- ---- drawings

abbrev pub insch_drawing : WindowMap → ℕ → ℕ → Window → Drawing
insch_drawing window w character a = character_inserted window w a.settings.cursor (written_glyph a.settings character)

abbrev pub delch_drawing : WindowMap → ℕ → Window → Drawing
delch_drawing window w a = character_deleted window w a.settings.cursor (a.columns - 1) a.settings.background

abbrev pub erase_drawing : Window → Drawing
erase_drawing a = everywhere a.settings.background

abbrev pub clrtoeol_drawing : Window → Drawing
clrtoeol_drawing a = to_end_of_line a.settings.cursor a.settings.background

abbrev pub clrtobot_drawing : Window → Drawing
clrtobot_drawing a = to_bottom a.settings.cursor a.settings.background

-- to the bottom of the window, whatever its region
abbrev pub insertln_drawing : WindowMap → ℕ → Window → Drawing
insertln_drawing window w a = lines_down window w a.settings.cursor.0 (a.lines - 1) 1 a.settings.background

abbrev pub deleteln_drawing : WindowMap → ℕ → Window → Drawing
deleteln_drawing window w a = lines_up window w a.settings.cursor.0 (a.lines - 1) 1 a.settings.background

-- the lines of the region, up by a number of lines, or down by a negative one
abbrev pub scrl_drawing : WindowMap → ℕ → ℤ → Window → Drawing
scrl_drawing window w (pos zero) a = λ y x. None
scrl_drawing window w (pos (suc n)) a = lines_up window w a.settings.region.0 a.settings.region.1 (suc n) a.settings.background
scrl_drawing window w (negsuc n) a = lines_down window w a.settings.region.0 a.settings.region.1 (suc n) a.settings.background

-- ---- effects

abbrev pub writing_edit : Windows → Writing → Edit
writing_edit windows (Move win y x) = sets win.0 (with_cursor (y, x))
writing_edit windows (Addch win character) = types win.0 (character ∷ [])
writing_edit windows (Addstr win text) = types win.0 text.now
writing_edit windows (Insch win character) = draws win.0 (insch_drawing windows.window win.0 character) None
writing_edit windows (Delch win) = draws win.0 (delch_drawing windows.window win.0) None
writing_edit windows (Insertln win) = draws win.0 (insertln_drawing windows.window win.0) None
writing_edit windows (Deleteln win) = draws win.0 (deleteln_drawing windows.window win.0) None
writing_edit windows (Erase win) = draws win.0 erase_drawing (Some (with_cursor origin))
writing_edit windows (Clear win) = draws win.0 erase_drawing (Some after_clear)
writing_edit windows (Clrtoeol win) = draws win.0 clrtoeol_drawing None
writing_edit windows (Clrtobot win) = draws win.0 clrtobot_drawing None
writing_edit windows (Scrl win n) = draws win.0 (scrl_drawing windows.window win.0 n) None
writing_edit windows (Setscrreg win top bottom) = sets win.0 (with_region top bottom)
writing_edit windows (Scrollok win flag) = sets win.0 (with_scrolling flag)
writing_edit windows (Clearok win flag) = sets win.0 (with_clear flag)
writing_edit windows (Attrset win attributes) = sets win.0 (with_attributes (valid_attributes (bits_of attributes)))
writing_edit windows (Attron win attributes) =
    sets win.0 (λ settings. with_attributes (bit_or (bits_of settings.attrs) (valid_attributes (bits_of attributes))) settings)
writing_edit windows (Attroff win attributes) =
    sets win.0 (λ settings. with_attributes (without (bits_of settings.attrs) (valid_attributes (bits_of attributes))) settings)
writing_edit windows (Bkgdset win attributes character) = sets win.0 (with_new_background (bits_of attributes) character)
writing_edit windows (ColorSet win pair) = sets win.0 (with_pair pair)
writing_edit windows (Bkgdpair win pair) = sets win.0 (with_background_pair pair)

-- its window is there, and then the further ones
abbrev pub writing_tests : Windows → Writing → List (Bool × Refusal)
writing_tests windows writing = missing_window windows (edit_window (writing_edit windows writing)) ∷ further_tests windows writing

abbrev pub writing_refusal : Windows → Writing → Option Refusal
writing_refusal windows writing = first_of (writing_tests windows writing)

abbrev pub after_writing : Windows → Writing → Windows
after_writing windows writing = after_edit windows (writing_edit windows writing)
