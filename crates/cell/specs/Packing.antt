-- Cells as numbers: the character in bits 0 to 7, the attributes in bits 8 to 15, and from bit 16 on the pair of a
-- cell; of a shown cell the foreground in bits 16 to 19, and from bit 20 on the background. How a cell is kept is
-- Curspan's own choice.
use Rattle.std.specs.Prelude.{◌+◌, ◌-◌, ◌*◌, ◌/◌, ◌%◌, ◌==◌, ◌&&◌, if◌then◌else◌}
use Rattle.cell.specs.Names.{ℕ, Bool, nat_le, Option, Some, None}
use Rattle.cell.specs.Attributes.{valid_attributes}
use Rattle.cell.specs.Glyphs.{Glyph, blank, is_printable}
use Rattle.cell.specs.ShownCells.{Rendition, Shown, rendition_with, shown_with}
use Rattle.cell.specs.declared.colour.ColourPair.{ColourPair}
use Rattle.cell.specs.declared.limits.TheConstants.{LAST_PAIR}

-- ---- what a number holds

abbrev pub character_of : ℕ → ℕ
character_of bits = bits % 256

abbrev pub attributes_of : ℕ → ℕ
attributes_of bits = bits / 256 % 256

abbrev pub glyph_of : ℕ → Glyph
glyph_of bits = record { character = character_of bits; attributes = attributes_of bits; pair = bits / 65536 }

-- some cell has the character and the pair that a number gives
abbrev pub gives_cell : ℕ → Bool
gives_cell number = is_printable (character_of number) && nat_le (number / 65536) LAST_PAIR

-- the cell that a program gives by any number: without bits beyond the six attributes, and a blank where no cell has the
-- character or the pair
abbrev pub given_cell : ℕ → Glyph
given_cell number =
    if gives_cell number
    then record { character = character_of number; attributes = valid_attributes (attributes_of number); pair = number / 65536 } else blank

-- the default colour is 0, and a colour one more than its number
abbrev pub colour_of : ℕ → Option ℕ
colour_of code = if code == 0 then None else Some (code - 1)

abbrev pub colours_of : ℕ → ColourPair
colours_of bits = record { foreground = colour_of (bits / 65536 % 16); background = colour_of (bits / 1048576) }

abbrev pub rendition_of : ℕ → Rendition
rendition_of bits = rendition_with (colours_of bits) (attributes_of bits)

abbrev pub shown_of : ℕ → Shown
shown_of bits = shown_with (rendition_of bits) (character_of bits)

-- ---- and which number holds that

abbrev pub glyph_bits : Glyph → ℕ
glyph_bits glyph = 65536 * glyph.pair + 256 * glyph.attributes + glyph.character

abbrev pub colour_code : Option ℕ → ℕ
colour_code None = 0
colour_code (Some colour) = colour + 1

abbrev pub colour_bits : ColourPair → ℕ
colour_bits pair = 1048576 * colour_code pair.background + 65536 * colour_code pair.foreground

abbrev pub rendition_bits : Rendition → ℕ
rendition_bits rendition = 1048576 * colour_code rendition.background + 65536 * colour_code rendition.foreground + 256 * rendition.attributes

abbrev pub shown_bits : Shown → ℕ
shown_bits shown = rendition_bits shown.rendition + shown.character
