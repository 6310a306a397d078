-- The lines of a grid whose cells are one after another. How it keeps them is its own choice; it shows lines of cells.
use Rattle.std.specs.Prelude.{◌≡◌, ◌+◌, ◌-◌, ◌*◌, ◌<◌, ◌≤◌, ◌++◌, if◌then◌else◌}
use Rattle.cell.specs.Names.{ℕ, Bool, List, length, map, take, drop, replicate, slice_index_or, AllByRecursion, range_with_len, splice}
use Rattle.cell.specs.declared.limits.TheConstants.{LARGEST_PAD}

-- cut into that many lines of that many columns
abbrev pub rows : {A : Type 0} → ℕ → ℕ → List A → List (List A)
rows lines columns cells = map (λ y. take columns (drop (y * columns) cells)) (range_with_len 0 lines)

-- so many cells: those given, and after them blanks
abbrev pub with_blanks : {A : Type 0} → A → ℕ → List A → List A
with_blanks blank n cells = cells ++ replicate (n - length cells) blank

-- n cells from one place on copied to another
abbrev pub moved : {A : Type 0} → ℕ → ℕ → ℕ → List A → List A
moved from to n cells = splice cells to (to + n) (take n (drop from cells))

-- where the next len of n lines begin after so many, from the first on or back from the last
abbrev pub start_of : Bool → ℕ → ℕ → ℕ → ℕ
start_of back n done len = if back then n - (done + len) else done

-- each line has its cells, and each cell passes the test
pub record IsWhole {A : Type 0} (Is : A → Type 0) (lines columns : ℕ) (cells : List A) : Type 0 where
  pub few_lines : lines ≤ LARGEST_PAD
  pub few_columns : columns ≤ LARGEST_PAD
  pub whole : length cells ≡ lines * columns
  pub each : AllByRecursion Is cells

-- The cells of the first lines are kept, in memory for all lines. Where lines are missing, these are blank, and so is the
-- last line that is kept.
pub record IsGrid {A : Type 0} (Is : A → Type 0) (blank : A) (lines columns : ℕ) (cells : List A) (capacity : ℕ) : Type 0 where
  pub all : IsWhole Is lines columns (with_blanks blank (lines * columns) cells)
  pub room : lines * columns ≤ capacity
  pub some : 0 < lines → columns ≤ length cells
  pub last : length cells < lines * columns → (k : ℕ) → length cells ≤ k + columns → slice_index_or cells k blank ≡ blank

-- after blanks were added: the grid is as it was, and line y is there, which isn't the last one if a line is missing
pub record IsReached {A : Type 0} (blank : A) (lines columns y : ℕ) (old new : List A) : Type 0 where
  pub same : with_blanks blank (lines * columns) new ≡ with_blanks blank (lines * columns) old
  pub there : y * columns + columns ≤ length new
  pub above : length new < lines * columns → y * columns + columns + columns ≤ length new
