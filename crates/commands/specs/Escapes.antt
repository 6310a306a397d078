-- A text that may hold any byte, with the bytes escaped that a terminal might obey. The form is Curspan's own, and that
-- of a script's escapes.
use Rattle.std.specs.Prelude.{◌||◌, ◌∷◌, if◌then◌else◌}
use Rattle.commands.specs.Names.{ℕ, List, [], flat_map, hex_digits, is_printable, backslash, is_newline, letter_x}

-- a byte from the space to the tilde as it is, a newline too, and any other as `\x1b`
abbrev pub escaped_byte : ℕ → List ℕ
escaped_byte byte = if is_printable byte || is_newline byte then byte ∷ [] else backslash ∷ letter_x ∷ hex_digits byte

abbrev pub escaped_text : List ℕ → List ℕ
escaped_text text = flat_map escaped_byte text
