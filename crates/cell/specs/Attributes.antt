-- Sets of attributes, as numbers of six bits: bold 1, dim 2, underline 4, blink 8, reverse 16, invisible 32.
-- X/Open Curses Issue 7, "Characters", "Attributes".
use Rattle.std.specs.Prelude.{◌-◌, ◌/◌, ◌%◌, ◌∷◌}
use Rattle.cell.specs.Names.{ℕ, List, [], codes, slice_index, bit_and}
use Rattle.cell.specs.declared.attr.Attr.{Attr}

-- the bits of a set, as they are kept
abbrev pub bits_of : Attr → ℕ
bits_of attr = attr.0

-- the six attributes of some bits, the others dropped
abbrev pub valid_attributes : ℕ → ℕ
valid_attributes bits = bit_and bits 0x3f

-- the attributes of the first set that the second lacks
abbrev pub without : ℕ → ℕ → ℕ
without attributes others = bit_and attributes (0xff - others)

-- ---- as they are written and printed: two hexadecimal digits in lower case

abbrev pub hexadecimal : List ℕ
hexadecimal = codes "0123456789abcdef"

-- the digit of a number below 16
abbrev pub hex_digit : ℕ → ℕ
hex_digit n = slice_index hexadecimal n

abbrev pub hex_digits : ℕ → List ℕ
hex_digits attributes = hex_digit (attributes / 16) ∷ hex_digit (attributes % 16) ∷ []
