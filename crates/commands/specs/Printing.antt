-- How the program prints a picture. The form is Curspan's own.
use Rattle.std.specs.Prelude.{◌+◌, ◌==◌, if◌then◌else◌, ◌∷◌, ◌++◌}
use Rattle.commands.specs.Names.{ℕ, Bool, not, List, [], Option, Some, None, codes, decimal, map, flat_map, list_any, hex_digits, option_map_or, Rendition, Shown, has_colour, Picture, Place}

abbrev pub has_attributes : Shown → Bool
has_attributes cell = not (cell.rendition.attributes == 0)

-- the digit of a colour, or a minus for the default
abbrev pub sign : Option ℕ → ℕ
sign colour = option_map_or (λ number. 48 + number) colour 45

-- the foreground's and the background's
abbrev pub signs : Rendition → List ℕ
signs rendition = sign rendition.foreground ∷ sign rendition.background ∷ []

-- the characters of a line between bars
abbrev pub characters_text : List Shown → List ℕ
characters_text cells = 124 ∷ map (λ cell. cell.character) cells ++ 124 ∷ 10 ∷ []

-- below it, if some cell of the line has attributes, a colon and the two digits of each cell's
abbrev pub attributes_text : List Shown → List ℕ
attributes_text cells = if list_any has_attributes cells then 58 ∷ flat_map (λ cell. hex_digits cell.rendition.attributes) cells ++ 10 ∷ [] else []

-- below them, if some cell of the line has a colour, a percent sign and the two signs of each cell's
abbrev pub colours_text : List Shown → List ℕ
colours_text cells = if list_any (λ cell. has_colour cell.rendition) cells then 37 ∷ flat_map (λ cell. signs cell.rendition) cells ++ 10 ∷ [] else []

abbrev pub line_text : List Shown → List ℕ
line_text cells = characters_text cells ++ attributes_text cells ++ colours_text cells

-- where the cursor is, if that is known
abbrev pub cursor_text : Option Place → List ℕ
cursor_text None = codes "cursor unknown" ++ 10 ∷ []
cursor_text (Some place) = codes "cursor " ++ decimal place.0 ++ 32 ∷ decimal place.1 ++ 10 ∷ []

-- how the next character would be printed: the attributes, and the signs of its colours if it has one
abbrev pub rendition_text : Rendition → List ℕ
rendition_text rendition =
    codes "rendition " ++ hex_digits rendition.attributes ++ (if has_colour rendition then 32 ∷ signs rendition else []) ++ 10 ∷ []

abbrev pub printed_picture : Picture → Option Place → Rendition → List ℕ
printed_picture picture cursor rendition = flat_map line_text picture ++ (cursor_text cursor ++ rendition_text rendition)
