-- The touched columns of a line as a first one, counted back from 65535, and a last one, and none where the first is past
-- the last.
use Rattle.std.specs.Prelude.{◌≡◌, ◌⊎◌, ◌≤◌, ◌-◌, ◌+◌, if◌then◌else◌}
use Rattle.grids.specs.Names.{ℕ, List, Option, None, Some, nat_lt, slice_index_or, Columns}

abbrev pub columns_in : ℕ → ℕ → Option Columns
columns_in before last = if nat_lt last (65535 - before) then None else Some (record { first = 65535 - before; last = last })

abbrev pub before_in : Option Columns → ℕ
before_in None = 0
before_in (Some columns) = 65535 - columns.first

abbrev pub last_in : Option Columns → ℕ
last_in None = 0
last_in (Some columns) = columns.last

-- the touched columns of a line, which a line that isn't there has not
abbrev pub touched_in : List (Option Columns) → ℕ → Option Columns
touched_in lines y = slice_index_or lines y None

-- no line is touched
abbrev pub AreUntouched : List (Option Columns) → Type 0
AreUntouched lines = (y : ℕ) → touched_in lines y ≡ None

-- Both numbers are 0 where there are no columns: any others are joined with these by their greatest.
abbrev pub AreEnds : ℕ → ℕ → Type 0
AreEnds before last = (before ≤ 65535) × ((65535 ≤ before + last) ⊎ ((before ≡ 0) × (last ≡ 0)))
