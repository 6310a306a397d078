-- What a step does to the damaged columns of the screen's lines, and how many they are.
use Rattle.std.specs.Prelude.{◌≡◌, ◌⊎◌, ◌+◌, ◌-◌, ◌<◌}
use Rattle.picture.specs.Names.{ℕ, zero, suc, Bool, true, MatchOption, Option, Some, List, length, ⊤, option_map, option_map_or, AreColumnsWithin, Columns, columns_of, is_among}

-- a column is this one, if there is one, or one of the first n that pass a test
abbrev pub IsEnd : ℕ → Option ℕ → (ℕ → Bool) → ℕ → Type 0
IsEnd n before test x = (before ≡ Some x) ⊎ ((x < n) × (test x ≡ true))

-- of some columns the first and the last, where there are any, are those of others or pass a test
abbrev pub AreEnds : ℕ → Option Columns → (ℕ → Bool) → Option Columns → Type 0
AreEnds n before test columns =
    MatchOption columns ⊤ (λ r. IsEnd n (option_map (λ c. c.first) before) test r.first × IsEnd n (option_map (λ c. c.last) before) test r.last)

-- Each of these places of the screen is damaged now, and each that was is. Of each line the first damaged column and the last are those of
-- before or one of the places.
pub record Damages (columns : ℕ) (places : ℕ → ℕ → Bool) (old new : List (Option Columns)) : Type 0 where
  pub height : length new ≡ length old
  pub within : (y : ℕ) → AreColumnsWithin columns (columns_of old y) → AreColumnsWithin columns (columns_of new y)
  pub keeps : (y x : ℕ) → is_among old y x ≡ true → is_among new y x ≡ true
  pub covers : (y x : ℕ) → y < length old → x < columns → places y x ≡ true → is_among new y x ≡ true
  pub few : (y : ℕ) → AreEnds columns (columns_of old y) (places y) (columns_of new y)

-- how many columns are damaged of a line, and of the lines before y
abbrev pub cells_of_line : Option Columns → ℕ
cells_of_line r = option_map_or (λ c. c.last + 1 - c.first) r 0

abbrev pub cells_above : List (Option Columns) → ℕ → ℕ
cells_above damage zero = 0
cells_above damage (suc y) = cells_above damage y + cells_of_line (columns_of damage y)
