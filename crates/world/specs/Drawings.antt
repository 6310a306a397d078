-- What the writing calls draw in a window. Places past the window's edges are ignored.
-- X/Open Curses Issue 7: addch ("Rendition of characters placed into a window"), clrtoeol, clrtobot, erase, insch,
-- delch, insertln, deleteln, scrl.
use Rattle.std.specs.Prelude.{◌+◌, ◌-◌, if◌then◌else◌, ◌==◌, ◌&&◌, ◌||◌}
use Rattle.world.specs.Names.{ℕ, nat_lt, nat_le, Some, None, bit_or, bits_of, Glyph, Place, Rect}
use Rattle.world.specs.WindowMaps.{Drawing, WindowMap, cell_at}
use Rattle.world.specs.declared.settings.Settings.{Settings}

-- ---- characters

-- A written space becomes the background's character; every character has the attributes of the window and of the
-- background, and the window's pair, or the background's where the window's is 0.
abbrev pub written_glyph : Settings → ℕ → Glyph
written_glyph settings character = record {
  character = (if character == 32 then settings.background.character else character);
  attributes = bit_or (bits_of settings.attrs) settings.background.attributes;
  pair = (if settings.pair == 0 then settings.background.pair else settings.pair);
}

-- one cell at a place
abbrev pub at_place : Place → Glyph → Drawing
at_place place glyph y x = if y == place.0 && x == place.1 then Some glyph else None

-- a cell at a place, and the cells from there on one column right
abbrev pub character_inserted : WindowMap → ℕ → Place → Glyph → Drawing
character_inserted window w place glyph y x =
    if y == place.0 && nat_le place.1 x then Some (if x == place.1 then glyph else cell_at window w y (x - 1)) else None

-- the cells after a place one column left, and a cell in the last column
abbrev pub character_deleted : WindowMap → ℕ → Place → ℕ → Glyph → Drawing
character_deleted window w place last glyph y x =
    if y == place.0 && nat_le place.1 x then Some (if x == last then glyph else cell_at window w y (x + 1)) else None

-- ---- one cell in many places

-- from a place to the end of its line
abbrev pub to_end_of_line : Place → Glyph → Drawing
to_end_of_line place glyph y x = if y == place.0 && nat_le place.1 x then Some glyph else None

-- from a place to the end of its line, and all lines below
abbrev pub to_bottom : Place → Glyph → Drawing
to_bottom place glyph y x = if nat_lt place.0 y || (y == place.0 && nat_le place.1 x) then Some glyph else None

abbrev pub everywhere : Glyph → Drawing
everywhere glyph y x = Some glyph

abbrev pub rectangle_filled : Rect → Glyph → Drawing
rectangle_filled r glyph y x = if (nat_le r.top y && nat_le y r.bottom) && (nat_le r.left x && nat_le x r.right) then Some glyph else None

-- ---- lines

-- The lines from top to bottom, both inclusive: each takes the line n below it, or one cell everywhere if that isn't
-- one of them.
abbrev pub lines_up : WindowMap → ℕ → ℕ → ℕ → ℕ → Glyph → Drawing
lines_up window w top bottom n glyph y x =
    if nat_le top y && nat_le y bottom then Some (if nat_le (y + n) bottom then cell_at window w (y + n) x else glyph) else None

-- Each takes the line n above it, or one cell everywhere.
abbrev pub lines_down : WindowMap → ℕ → ℕ → ℕ → ℕ → Glyph → Drawing
lines_down window w top bottom n glyph y x =
    if nat_le top y && nat_le y bottom then Some (if nat_le (top + n) y then cell_at window w (y - n) x else glyph) else None
