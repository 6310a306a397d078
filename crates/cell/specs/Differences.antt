-- Where two lines of shown cells differ, by comparing them column by column, and in how many places two pictures of one
-- size do; measures of our own.
use Rattle.std.specs.Prelude.{◌≡◌, ◌+◌, ◌<◌, ◌==◌, ◌&&◌, if◌then◌else◌, ◌∷◌}
use Rattle.cell.specs.Names.{ℕ, Bool, List, [], length, take, drop, Option, Some, None, slice_index_or, option_eq}
use Rattle.cell.specs.Pictures.{Picture}
use Rattle.cell.specs.ShownCells.{Rendition, Shown, shown_blank}

-- the cells of a column are not the same
pub record DiffersAt (old new : List Shown) (column : ℕ) : Type 0 where
  pub inside : column < length old
  pub differs : slice_index_or old column shown_blank ≡ slice_index_or new column shown_blank → ⊥

-- the first column in which they differ, and none where they are one line
abbrev pub IsFirstDifference : List Shown → List Shown → Option ℕ → Type 0
IsFirstDifference old new None = old ≡ new
IsFirstDifference old new (Some column) = DiffersAt old new column × (take column old ≡ take column new)

-- the last column in which they differ, and none where they are one line
abbrev pub IsLastDifference : List Shown → List Shown → Option ℕ → Type 0
IsLastDifference old new None = old ≡ new
IsLastDifference old new (Some column) = DiffersAt old new column × (drop (column + 1) old ≡ drop (column + 1) new)

-- ---- in how many places

abbrev pub same_colour : Option ℕ → Option ℕ → Bool
same_colour a b = option_eq (λ m n. m == n) a b

abbrev pub same_rendition : Rendition → Rendition → Bool
same_rendition a b = a.attributes == b.attributes && (same_colour a.foreground b.foreground && same_colour a.background b.background)

abbrev pub same_shown : Shown → Shown → Bool
same_shown a b = a.character == b.character && same_rendition a.rendition b.rendition

-- in how many columns two lines differ
abbrev pub line_difference : List Shown → List Shown → ℕ
line_difference [] new = 0
line_difference (a ∷ old) [] = 0
line_difference (a ∷ old) (b ∷ new) = (if same_shown a b then 0 else 1) + line_difference old new

abbrev pub difference : Picture → Picture → ℕ
difference [] new = 0
difference (line ∷ old) [] = 0
difference (line ∷ old) (other ∷ new) = line_difference line other + difference old new
