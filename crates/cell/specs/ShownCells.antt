-- What is seen of a cell: its character, printed with a rendition.
-- ECMA-48, 5th edition, 8.3.117 SGR ("graphic rendition": attributes, and the colours of display and background);
-- X/Open Curses Issue 7, init_pair (a colour pair is a foreground and a background).
use Rattle.std.specs.Prelude.{◌+◌, ◌&&◌, ◌==◌, ◌≤◌, ◌<◌, ◌≡◌}
use Rattle.cell.specs.Names.{ℕ, Bool, not, ⊤, MatchOption, Option, None, is_none, List, length, replicate, slice_index_or, AllByRecursion}
use Rattle.cell.specs.Glyphs.{Glyph}
use Rattle.cell.specs.declared.limits.TheConstants.{FIRST_CHARACTER, LAST_CHARACTER, LAST_COLOUR, LAST_PAIR}
use Rattle.cell.specs.declared.colour.ColourPair.{ColourPair}

-- ---- renditions: the colours are numbers, from black 0 to white 7, and none is the terminal's default

pub record Rendition : Type 0 where
  pub attributes : ℕ
  pub foreground : Option ℕ
  pub background : Option ℕ

-- no attributes, and the default colours
abbrev pub no_rendition : Rendition
no_rendition = record { attributes = 0; foreground = None; background = None }

abbrev pub is_empty : Rendition → Bool
is_empty rendition = rendition.attributes == 0 && (is_none rendition.foreground && is_none rendition.background)

-- a foreground or a background other than the default
abbrev pub has_colour : Rendition → Bool
has_colour rendition = not (is_none rendition.foreground && is_none rendition.background)

-- the default colour, or one of the eight
abbrev pub IsColour : Option ℕ → Type 0
IsColour colour = MatchOption colour ⊤ (λ number. number ≤ LAST_COLOUR)

pub record IsRendition (rendition : Rendition) : Type 0 where
  pub of_the_six : rendition.attributes < 64
  pub foreground : IsColour rendition.foreground
  pub background : IsColour rendition.background

-- ---- shown cells

pub record Shown : Type 0 where
  pub character : ℕ
  pub rendition : Rendition

-- a character that is printed with a rendition
abbrev pub shown_with : Rendition → ℕ → Shown
shown_with rendition character = record { character = character; rendition = rendition }

-- the space with the empty rendition
abbrev pub shown_blank : Shown
shown_blank = record { character = 32; rendition = no_rendition }

pub record IsShown (shown : Shown) : Type 0 where
  pub from_space : FIRST_CHARACTER ≤ shown.character
  pub to_tilde : shown.character ≤ LAST_CHARACTER
  pub rendition : IsRendition shown.rendition

-- ---- the table of colour pairs

abbrev pub Pairs : Type 0
Pairs = List ColourPair

-- the default foreground and background
abbrev pub default_pair : ColourPair
default_pair = record { foreground = None; background = None }

-- at first each pair has the default colours
abbrev pub first_pairs : Pairs
first_pairs = replicate (LAST_PAIR + 1) default_pair

abbrev pub IsPair : ColourPair → Type 0
IsPair pair = IsColour pair.foreground × IsColour pair.background

pub record ArePairs (pairs : Pairs) : Type 0 where
  pub all : length pairs ≡ LAST_PAIR + 1
  pub each : AllByRecursion IsPair pairs

abbrev pub pair_at : Pairs → ℕ → ColourPair
pair_at pairs number = slice_index_or pairs number default_pair

abbrev pub rendition_with : ColourPair → ℕ → Rendition
rendition_with pair attributes = record { attributes = attributes; foreground = pair.foreground; background = pair.background }

-- how a cell is shown in the colours of a pair
abbrev pub shown_in : ColourPair → Glyph → Shown
shown_in pair glyph = record { character = glyph.character; rendition = rendition_with pair glyph.attributes }

-- how a cell is shown: with the colours that its pair has in the table
abbrev pub shown : Pairs → Glyph → Shown
shown pairs glyph = shown_in (pair_at pairs glyph.pair) glyph
