-- The cells of a line, as C gets them.
-- ECMA-48, 5th edition, 8.3.117 SGR: the colours 0 to 7, and 9 for the default.
use Rattle.std.specs.Prelude.{◌≡◌, ◌++◌, ◌+◌, ◌*◌, ℕ, List, drop, if◌then◌else◌, length, map, min, nat_lt, take, Option, Some, None, Result, Ok, Err}
use Rattle.std.specs.Option.{option_map_or}
use Rattle.cell.specs.Glyphs.{Glyph}
use Rattle.cell.specs.Packing.{glyph_bits}
use Rattle.cell.specs.Pictures.{line_of}
use Rattle.cell.specs.ShownCells.{Shown}
use Rattle.cell.specs.declared.refusal.Refusal.TheVariants.{NoSuchWindow, OutsideWindow}
use Rattle.world.specs.Rows.{line_shown}
use Rattle.world.specs.WindowMaps.{WindowMap}
use Rattle.cell.specs.declared.refusal.Refusal.{Refusal}
use Rattle.world.specs.Worlds.{World}
use Rattle.compose.specs.Desks.{world}
use Rattle.desk.specs.declared.screen.Fault.TheVariants.{Refused}
use Rattle.capi.specs.declared.answer.Answer.{Answer}
use Rattle.capi.specs.declared.c_screen.CScreen.{CScreen}
use Rattle.capi.specs.Answers.{closed, of_end, ok}

-- ---- a line

-- the cells of line y of window w
abbrev pub line_answer : WindowMap → ℕ → ℕ → Result (List Glyph) Refusal
line_answer window w y = option_map_or (λ a. if nat_lt y a.lines then Ok (line_shown window w y) else Err OutsideWindow) (window w) (Err NoSuchWindow)

-- the cells of line y of the virtual screen
abbrev pub shown_answer : World → ℕ → Result (List Shown) Refusal
shown_answer world y = if nat_lt y world.windows.lines then Ok (line_of world.virtual.picture y) else Err OutsideWindow

-- ---- a cell as one number: that of a window as the answer of inch, and a shown one with its colours

abbrev pub colour_number : Option ℕ → ℕ
colour_number None = 9
colour_number (Some colour) = colour

abbrev pub shown_number : Shown → ℕ
shown_number shown = 16777216 * colour_number shown.rendition.background + 65536 * colour_number shown.rendition.foreground
    + 256 * shown.rendition.attributes + shown.character

-- each cell of a line as its number
abbrev pub numbered : {A : Type 0} → (A → ℕ) → Result (List A) Refusal → Result (List ℕ) Refusal
numbered number (Ok line) = Ok (map number line)
numbered number (Err refusal) = Err refusal

abbrev pub window_line : ℕ → ℕ → World → Result (List ℕ) Refusal
window_line w y world = numbered glyph_bits (line_answer world.windows.window w y)

abbrev pub screen_line : ℕ → World → Result (List ℕ) Refusal
screen_line y world = numbered shown_number (shown_answer world y)

-- ---- a buffer

-- a buffer with the first n of some numbers in place of its own
abbrev pub with_first : ℕ → List ℕ → List ℕ → List ℕ
with_first n buffer numbers = take n numbers ++ drop n buffer

-- with as many of them as it has room for
abbrev pub put_into : List ℕ → List ℕ → List ℕ
put_into buffer numbers = with_first (min (length numbers) (length buffer)) buffer numbers

-- C gets the length of the line, and its cells; and where it is refused, the buffer stays.
abbrev pub IsLineTold : Result (List ℕ) Refusal → List ℕ → Answer → List ℕ → Type 0
IsLineTold (Ok line) buffer answer buffer' = (answer ≡ ok (length line) 0) × (buffer' ≡ put_into buffer line)
IsLineTold (Err refusal) buffer answer buffer' = (answer ≡ of_end (Err (Refused refusal))) × (buffer' ≡ buffer)

abbrev pub LineTold : Option CScreen → (World → Result (List ℕ) Refusal) → List ℕ → Answer → List ℕ → Type 0
LineTold None line buffer answer buffer' = (answer ≡ closed) × (buffer' ≡ buffer)
LineTold (Some s) line buffer answer buffer' = IsLineTold (line (world s.screen.desk)) buffer answer buffer'
