-- The lines of a grid whose cells are one after another: each line, and equal sizes.
use Rattle.std.specs.Prelude.{◌≡◌, ◌<◌, ◌≤◌, ◌+◌, ◌*◌}
use Rattle.cell.specs.{ℕ, List, [], length, take, drop, replicate, arith, zero-add, length-take-le, length-drop, length-replicate}
use Rattle.cell.specs.{take-replicate, drop-replicate, get_or-replicate, ext_get_or, nil_from_length, All-from_recursion}
use Rattle.cell.specs.{recursion_from_All, All-take, All-drop, length-map-range_with_len, get_or-map-range_with_len, mul-le, row_fits, line_of, EachCell, size_of, all_of, rows, IsWhole}
use Rattle.cell.proofs.PictureLemmas.{each-map}

abbrev line_at : {A : Type 0} → ℕ → List A → ℕ → List A
line_at columns cells y = take columns (drop (y * columns) cells)

pub length-rows : {A : Type 0} (lines columns : ℕ) (cells : List A) → length (rows lines columns cells) ≡ lines
length-rows lines columns cells = length-map-range_with_len (line_at columns cells) 0 lines

pub line_of-rows : {A : Type 0} (lines columns : ℕ) (cells : List A) (y : ℕ) → y < lines → line_of (rows lines columns cells) y ≡ take columns (drop (y * columns) cells)
line_of-rows lines columns cells y below = get_or-map-range_with_len (line_at columns cells) 0 lines y y [] below (zero-add y)

-- the cells of a line lie before the lines below it, and these among all cells
pub line_end : (lines columns y : ℕ) → y < lines → y * columns + columns ≤ lines * columns
line_end lines columns y below = row_fits y columns lines columns below (omega arith)

pub length-line_of-rows : {A : Type 0} {Is : A → Type 0} (lines columns : ℕ) (cells : List A) (y : ℕ) → IsWhole Is lines columns cells → y < lines
    → length (line_of (rows lines columns cells) y) ≡ columns
length-line_of-rows lines columns cells y grid below = grind (arith, line_end, line_of-rows, length-take-le, length-drop)

-- cells

pub EachCell-rows : {A : Type 0} {Is : A → Type 0} (lines columns : ℕ) (cells : List A) → IsWhole Is lines columns cells → EachCell Is (rows lines columns cells)
EachCell-rows {Is = Is} lines columns cells grid = search (arith, each-map, recursion_from_All, All-take, All-drop, All-from_recursion)

-- a blank grid

pub rows-all_of : {A : Type 0} (cell : A) (lines columns : ℕ) → rows lines columns (replicate (lines * columns) cell) ≡ all_of cell lines columns
rows-all_of cell lines columns =
    ext_get_or [] (rows lines columns (replicate (lines * columns) cell)) (all_of cell lines columns) (grind (arith, length-rows, length-replicate))
    (λ y within. grind (arith, length-rows, line_of-rows, drop-replicate, take-replicate, line_end lines columns y, get_or-replicate))

-- grids of one size

pub same_grid_size : {A : Type 0} {Is : A → Type 0} {lines columns lines' columns' : ℕ} {cells cells' : List A} {picture picture' : List (List A)} → IsWhole Is lines columns cells
    → IsWhole Is lines' columns' cells'
    → rows lines columns cells ≡ picture → rows lines' columns' cells' ≡ picture' → size_of picture ≡ size_of picture'
    → (length cells ≡ length cells') × (rows lines columns cells' ≡ picture')
same_grid_size {lines} {columns} {lines'} {columns'} {cells} {cells'} grid other is other_is same = grind (arith, length-rows, length-line_of-rows, nil_from_length)

pub same_width : {A : Type 0} {Is : A → Type 0} {lines columns lines' columns' : ℕ} {cells cells' : List A} {picture picture' : List (List A)} → IsWhole Is lines columns cells
    → IsWhole Is lines' columns' cells'
    → rows lines columns cells ≡ picture → rows lines' columns' cells' ≡ picture' → size_of picture ≡ size_of picture' → (lines ≡ lines') × (0 < lines → columns ≡ columns')
same_width {lines} {columns} {lines'} {columns'} {cells} {cells'} grid other is other_is same = grind (arith, length-rows, length-line_of-rows)

-- a line of the picture is a line of the grid, and a column of it a column

pub record HasLine {A : Type 0} (lines columns : ℕ) (cells : List A) (y : ℕ) : Type 0 where
  pub below : y < lines
  pub end : y * columns + columns ≤ length cells
  pub few : length cells ≤ 1000000

pub HasLine-from_length : {A : Type 0} {Is : A → Type 0} {lines columns y : ℕ} {cells : List A} {picture : List (List A)} → IsWhole Is lines columns cells → rows lines columns cells ≡ picture
    → y < length picture → HasLine lines columns cells y
HasLine-from_length {lines} {columns} {y} {cells} grid is within = grind (arith, length-rows, line_end, mul-le)

pub column_below : {A : Type 0} {Is : A → Type 0} {lines columns y x : ℕ} {cells : List A} {picture : List (List A)} → IsWhole Is lines columns cells → rows lines columns cells ≡ picture
    → y < length picture → x < length (line_of picture y) → x < columns
column_below {lines} {columns} {y} {x} {cells} grid is within left = grind (arith, HasLine-from_length, length-line_of-rows)
