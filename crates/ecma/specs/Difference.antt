-- In how many places two pictures of one size differ where the new one has a colour, a measure of our own.
use Rattle.std.specs.Prelude.{◌+◌, if◌then◌else◌, ◌∷◌}
use Rattle.ecma.specs.Names.{ℕ, [], List, same_shown, Shown, has_colour, Picture}

-- in how many columns two lines differ where the new one has a colour
abbrev pub line_colour_difference : List Shown → List Shown → ℕ
line_colour_difference [] new = 0
line_colour_difference (a ∷ old) [] = 0
line_colour_difference (a ∷ old) (b ∷ new) = (if same_shown a b then 0 else if has_colour b.rendition then 1 else 0) + line_colour_difference old new

abbrev pub colour_difference : Picture → Picture → ℕ
colour_difference [] new = 0
colour_difference (line ∷ old) [] = 0
colour_difference (line ∷ old) (other ∷ new) = line_colour_difference line other + colour_difference old new
