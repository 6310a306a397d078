-- The cells of a slot, and the lines of a grid.
use Rattle.std.specs.Prelude.{◌≡◌, ◌+◌, ◌-◌, ◌<◌, ◌≤◌, ◌&&◌, if◌then◌else◌}
use Rattle.grids.specs.{Bool, true, false, Some, unwrap_or, ap, refl, ◌∙◌, Glyph, is_among, with_block_copied}
use Rattle.grids.specs.{ℕ, [], length, take, drop, replicate, get_or, map, Option, None, arith, zero-add, lit≤, lit<, cases_lt, AllByRecursion, range_with_len, All-from_recursion, recursion_from_All}
use Rattle.grids.specs.{All-get_or, All-take, All-drop, ext_get_or, get_or-take, get_or-drop, get_or-replicate, get_or_past, length-replicate, length-take-le, length-drop, length-map-range_with_len}
use Rattle.grids.specs.{get_or-map-range_with_len, blank, IsCell, Sheet, Place, AreCells, HasSize, line_of, glyph_at, blank_sheet, LARGEST_PAD, own_grid, first_settings, blank_grid, new_window, Kept}
use Rattle.grids.specs.{IsKept, IsGridOf, window_of, StaysInPlace, Columns}
use mathlib.Core.Path.{fun_ext}
use Rattle.cell.proofs.PictureLemmas.{IsCell-blank, HasSize-all_of, EachCell-all_of}
use Rattle.grids.specs.declared.slot.Cells.{Cells}
use Rattle.grids.specs.declared.slot.Cells.TheVariants.{Own}
use Rattle.grids.specs.declared.slot.Origin.{Origin}

-- a piece of a line
pub piece-of_line : (sheet : Sheet) (line left len : ℕ) → left + len ≤ length (line_of sheet line)
    → take len (drop left (line_of sheet line)) ≡ map (λ x. glyph_at sheet (line, left + x)) (range_with_len 0 len)
piece-of_line sheet line left len fits =
    ext_get_or blank _ _ (grind (arith, length-take-le, length-drop, length-map-range_with_len))
    (λ x below. grind (arith, length-take-le, length-drop, get_or-take, get_or-drop, get_or-map-range_with_len, zero-add))

pub cells-of_line : (sheet : Sheet) (line left len : ℕ) → AreCells sheet → line < length sheet → AllByRecursion IsCell (take len (drop left (line_of sheet line)))
cells-of_line sheet line left len cells below =
    let row = All-get_or (AllByRecursion IsCell) sheet line [] below (All-from_recursion (AllByRecursion IsCell) sheet cells) in
    recursion_from_All IsCell _ (All-take IsCell len _ (All-drop IsCell left _ (All-from_recursion IsCell (line_of sheet line) row)))

-- a blank grid

pub grid-blank : (lines columns : ℕ) → own_grid (λ y x. glyph_at (blank_sheet lines columns) (y, x)) ≡ blank_grid
grid-blank lines columns = grind (arith, cases_lt, get_or-replicate, replicate, get_or_past, length-replicate)

-- no line is touched
pub touched-none : (n y : ℕ) → get_or (replicate n (let o : Option Columns = None in o)) y None ≡ None
touched-none n y = grind (arith, cases_lt, get_or-replicate, get_or_past, replicate, length-replicate)

-- a new window with a grid

pub IsKept-new : (lines columns depth : ℕ) (place : Option Place) (origin : Origin) (cells : Cells) → 0 < lines → 0 < columns → lines ≤ LARGEST_PAD → columns ≤ LARGEST_PAD
    → IsGridOf lines columns cells
    → IsKept (record { lines = lines; columns = columns; place = place; settings = first_settings lines; touched = replicate lines None; depth = depth; origin = origin; cells = cells })
IsKept-new lines columns depth place origin cells has_line has_column few_lines few_columns grid = grind (arith, length-replicate, replicate, touched-none, lit<, lit≤)

pub IsGridOf-blank : (lines columns : ℕ) → IsGridOf lines columns (Own (blank_sheet lines columns))
IsGridOf-blank lines columns = (HasSize-all_of blank lines columns, EachCell-all_of IsCell blank lines columns IsCell-blank)

pub window-blank : (lines columns depth : ℕ) (place : Option Place) (origin : Origin)
    → window_of (record {
      lines = lines;
      columns = columns;
      place = place;
      settings = first_settings lines;
      touched = replicate lines None;
      depth = depth;
      origin = origin;
      cells = Own
          (blank_sheet lines columns);
    })
    ≡ new_window lines columns place blank_grid
window-blank lines columns depth place origin =
    let none : (λ y. get_or (replicate lines (let o : Option Columns = None in o)) y None) ≡ (λ y. None) = fun_ext (λ y. touched-none lines y) in
    λ i. record (new_window lines columns place blank_grid) { touched = none i; backing = grid-blank lines columns i }

-- a slot stays where it is, with another grid of its own

pub StaysInPlace-grid : (k : Kept) (sheet new : Sheet) → IsKept k → k.cells ≡ Own sheet → (HasSize k.lines k.columns sheet → HasSize k.lines k.columns new) → (AreCells sheet → AreCells new)
    → StaysInPlace k (record k { cells = Own new })
StaysInPlace-grid k sheet new s is size cells = grind arith

-- a block of the grid is copied

chosen : (t : Bool) (a b : Glyph) → (if t then a else b) ≡ unwrap_or (if t then Some a else None) b
chosen true a b = refl
chosen false a b = refl

pub block-window : (k : Kept) (sheet new : Sheet) (sy sx dy dx lines columns : ℕ) → k.cells ≡ Own sheet
    → ((v u : ℕ) → glyph_at new (v, u) ≡ (if is_among dy lines v && is_among dx columns u then glyph_at sheet (sy + (v - dy), sx + (u - dx)) else glyph_at sheet (v, u)))
    → window_of (record k { cells = Own new }) ≡ with_block_copied sy sx dy dx lines columns (window_of k)
block-window k sheet new sy sx dy dx lines columns own shown =
    let cells : (λ y x. glyph_at new (y, x)) ≡ (λ y x. unwrap_or (if is_among dy lines y && is_among dx columns x then Some (glyph_at sheet (sy + (y - dy), sx + (x - dx))) else None) (glyph_at sheet (y, x))) =
    fun_ext (λ y. fun_ext (λ x. shown y x ∙ chosen (is_among dy lines y && is_among dx columns x) (glyph_at sheet (sy + (y - dy), sx + (x - dx))) (glyph_at sheet (y, x)))) in
    rw own (ap (λ (c : ℕ → ℕ → Glyph). record (window_of (record k { cells = Own new })) { backing = own_grid c }) cells)
