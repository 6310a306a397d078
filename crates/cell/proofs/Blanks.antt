-- The cells that a grid has, with the blanks that are missing after them: a line that is lent, blanks that are added, and
-- what is written before those that are missing.
use Rattle.std.specs.Prelude.{◌≡◌, ◌+◌, ◌-◌, ◌*◌, ◌<◌, ◌≤◌}
use Rattle.cell.specs.{ℕ, inl, inr, List, [], length, take, drop, min, replicate, get_or, sym, ap, ◌∙◌, arith, length-append, AllByRecursion, splice, cases_lt, cases_eq, append_assoc}
use Rattle.cell.specs.{length-replicate, length-take-le, length-drop, replicate-append-replicate, get_or-replicate, get_or_append_left, get_or_past, get_or-take, get_or-drop}
use Rattle.cell.specs.{take-append-le, drop-append-le, ext_get_or, IsGrid, IsReached, with_blanks}
use Rattle.std.proofs.lemmas.List.{get_or-append_right}
use Rattle.cell.specs.declared.limits.TheConstants.{LARGEST_PAD}
use Rattle.cell.proofs.GridLemmas.{line_end}
use Rattle.cell.proofs.PictureLemmas.{each-replicate}
use Rattle.cell.proofs.PieceWrites.{IsWhole-splice, beyond, length-splice}

-- a place in blanks, or past them
get_or-blanks : {A : Type 0} (blank : A) (n k : ℕ) → get_or (replicate n blank) k blank ≡ blank
get_or-blanks blank n k = grind (arith, cases_lt k n, get_or-replicate, get_or_past, length-replicate)

get_or-with_blanks : {A : Type 0} (blank : A) (n : ℕ) (cells : List A) (k : ℕ) → get_or (with_blanks blank n cells) k blank ≡ get_or cells k blank
get_or-with_blanks blank n cells k = grind (arith, cases_lt k (length cells), get_or_append_left, get_or-append_right, get_or-blanks, get_or_past)

pub length-with_blanks : {A : Type 0} (blank : A) (n : ℕ) (cells : List A) → length (with_blanks blank n cells) ≡ length cells + (n - length cells)
length-with_blanks blank n cells = grind (arith, length-append, length-replicate)

-- a grid has no more cells than its lines
pub few_cells : {A : Type 0} {Is : A → Type 0} {blank : A} {lines columns : ℕ} {cells : List A} {capacity : ℕ} → IsGrid Is blank lines columns cells capacity → length cells ≤ lines * columns
few_cells {blank = blank} {lines} {columns} {cells} grid = omega (arith, grid.all.whole, length-with_blanks blank (lines * columns) cells)

-- more of the blanks are there

pub same_blanks : {A : Type 0} (blank : A) (n m : ℕ) (cells : List A) → m ≤ n → with_blanks blank n (with_blanks blank m cells) ≡ with_blanks blank n cells
same_blanks blank n m cells few = grind (arith, length-with_blanks, append_assoc, replicate-append-replicate)

pub IsGrid-with_blanks : {A : Type 0} {Is : A → Type 0} {blank : A} {lines columns : ℕ} {cells : List A} {capacity capacity' : ℕ} (m : ℕ) → IsGrid Is blank lines columns cells capacity
    → m ≤ lines * columns → capacity ≤ capacity' → IsGrid Is blank lines columns (with_blanks blank m cells) capacity'
IsGrid-with_blanks {blank = blank} {lines} {columns} {cells} m grid few more = record {
  all = rw (same_blanks blank (lines * columns) m cells few) grid.all;
  room = omega (arith, grid.room);
  some = λ h. omega (arith, grid.some h, length-with_blanks blank m cells);
  last = λ missing k end. get_or-with_blanks blank m cells k ∙ grid.last (omega (arith, length-with_blanks blank m cells)) k (omega (arith, length-with_blanks blank m cells));
}

-- a blank grid has no more than its first line

only_blanks : {A : Type 0} (blank : A) (n : ℕ) → with_blanks blank n [] ≡ replicate n blank
only_blanks blank n = ap (λ m. replicate m blank) (omega arith)

pub IsGrid-blank : {A : Type 0} {Is : A → Type 0} (blank : A) (lines columns capacity : ℕ) → Is blank → lines ≤ LARGEST_PAD → columns ≤ LARGEST_PAD → lines * columns ≤ capacity
    → IsGrid Is blank lines columns (with_blanks blank (min columns (lines * columns)) []) capacity
IsGrid-blank {Is = Is} blank lines columns capacity is few_lines few_columns room = record {
  all = rw (same_blanks blank (lines * columns) (min columns (lines * columns)) [] (omega arith), only_blanks blank (lines * columns)) (record {
    few_lines = few_lines;
    few_columns = few_columns;
    whole = length-replicate (lines * columns) blank;
    each = each-replicate Is (lines * columns) blank is;
  });
  room = room;
  some = λ h. omega (arith, line_end lines columns 0 h, length-with_blanks blank (min columns (lines * columns)) []);
  last = λ missing k end. get_or-with_blanks blank (min columns (lines * columns)) [] k;
}

pub blank_cells : {A : Type 0} (blank : A) (columns n : ℕ) → with_blanks blank n (with_blanks blank (min columns n) []) ≡ replicate n blank
blank_cells blank columns n = same_blanks blank n (min columns n) [] (omega arith) ∙ only_blanks blank n

-- the line's own place, or that of the last line, where both are blank
lent_place : {A : Type 0} {Is : A → Type 0} {blank : A} {lines columns : ℕ} {cells : List A} {capacity : ℕ} (y k : ℕ) → IsGrid Is blank lines columns cells capacity → y < lines
    → get_or cells (min (y * columns) (length cells - columns) + k) blank ≡ get_or cells (y * columns + k) blank
lent_place {blank = blank} {lines} {columns} {cells} y k grid below =
    let some = grid.some (omega arith) in
    let end = line_end lines columns y below in
    elim (cases_lt (length cells - columns) (y * columns)) [
      | inl past ↦ grid.last (omega arith) _ (omega arith) ∙ sym (grid.last (omega arith) _ (omega arith))
      | inr there ↦ ap (λ start. get_or cells (start + k) blank) (omega arith)
    ]

pub lent_line : {A : Type 0} {Is : A → Type 0} {blank : A} {lines columns : ℕ} {cells : List A} {capacity : ℕ} (y : ℕ) → IsGrid Is blank lines columns cells capacity → y < lines
    → take columns (drop (min (y * columns) (length cells - columns)) cells) ≡ take columns (drop (y * columns) (with_blanks blank (lines * columns) cells))
lent_line {blank = blank} {lines} {columns} {cells} y grid below =
    let some = grid.some (omega arith) in
    let few = few_cells grid in
    let end = line_end lines columns y below in
    let long = length-with_blanks blank (lines * columns) cells in
    let width : length (take columns (drop (min (y * columns) (length cells - columns)) cells)) ≡ columns = grind (arith, length-take-le, length-drop) in
    ext_get_or blank _ _ (grind (arith, length-take-le, length-drop)) (λ k left. grind (arith, get_or-take, get_or-drop, get_or-with_blanks, lent_place))

-- what is written into a line that is there, and not lent for another

with_blanks-splice : {A : Type 0} (blank : A) (n : ℕ) (cells piece : List A) (start : ℕ) → start + length piece ≤ length cells
    → with_blanks blank n (splice cells start (start + length piece) piece) ≡ splice (with_blanks blank n cells) start (start + length piece) piece
with_blanks-splice blank n cells piece start fits = grind (arith, length-splice, take-append-le, drop-append-le, append_assoc)

module _ {A : Type 0} {Is : A → Type 0} {blank : A} {lines columns : ℕ} {old new : List A} {capacity capacity' : ℕ} (y x : ℕ) (grid : IsGrid Is blank lines columns new capacity)
    (reached : IsReached blank lines columns y old new) (below : y < lines) (same : capacity' ≡ capacity) where
  module _ (start : ℕ) (piece : List A) (fits : start + length piece ≤ y * columns + columns) where
    abbrev pasted : List A → List A
    pasted cells = splice cells start (start + length piece) piece

    pub blanks-splice : with_blanks blank (lines * columns) (pasted new) ≡ pasted (with_blanks blank (lines * columns) old)
    blanks-splice = with_blanks-splice blank (lines * columns) new piece start (omega (arith, reached.there, fits)) ∙ ap pasted reached.same

    pub IsGrid-splice : AllByRecursion Is piece → IsGrid Is blank lines columns (pasted new) capacity'
    IsGrid-splice sound = record {
      all = rw (blanks-splice, ← reached.same) (IsWhole-splice blank lines columns (with_blanks blank (lines * columns) new) piece start grid.all
          (omega (arith, reached.there, fits, length-with_blanks blank (lines * columns) new)) sound);
      room = omega (arith, same, grid.room);
      some = λ h. omega (arith, grid.some h, length-splice blank new piece start (omega (arith, reached.there, fits)));
      last = λ missing k end. let long = length-splice blank new piece start (omega (arith, reached.there, fits)) in
          let missing_there : length new < lines * columns = omega arith in
          beyond blank new piece start (omega (arith, reached.there, fits)) k (omega (arith, reached.above missing_there, fits)) ∙ grid.last missing_there k (omega arith);
    }

  module _ (piece : List A) (fits : x + length piece ≤ columns) where
    abbrev after : List A → List A
    after cells = splice cells (y * columns + x) (y * columns + x + length piece) piece

    pub blanks-piece : with_blanks blank (lines * columns) (after new) ≡ after (with_blanks blank (lines * columns) old)
    blanks-piece = blanks-splice (y * columns + x) piece (omega (arith, fits))

    pub IsGrid-piece : AllByRecursion Is piece → IsGrid Is blank lines columns (after new) capacity'
    IsGrid-piece sound = IsGrid-splice (y * columns + x) piece (omega (arith, fits)) sound

-- a grid of the same size is copied

pub same_product : {lines columns lines' columns' : ℕ} → lines ≡ lines' → (0 < lines → columns ≡ columns') → lines * columns ≡ lines' * columns'
same_product {lines} {columns} {lines'} {columns'} high wide = grind (arith, cases_eq lines 0)

positive : (lines columns : ℕ) → 0 < lines * columns → 0 < lines
positive lines columns some = grind (arith, cases_eq lines 0)

pub IsGrid-copied : {A : Type 0} {Is : A → Type 0} {blank : A} {lines columns lines' columns' : ℕ} {cells cells' : List A} {capacity capacity' larger : ℕ}
    → IsGrid Is blank lines columns cells capacity → IsGrid Is blank lines' columns' cells' capacity' → lines ≡ lines' → (0 < lines → columns ≡ columns') → capacity ≤ larger
    → IsGrid Is blank lines columns cells' larger
IsGrid-copied {blank = blank} {lines} {columns} {lines'} {columns'} {cells} {cells'} grid other high wide more =
    let many : lines * columns ≡ lines' * columns' = same_product high wide in record {
      all = rw many (record {
        few_lines = grid.all.few_lines;
        few_columns = grid.all.few_columns;
        whole = other.all.whole ∙ sym many;
        each = other.all.each;
      });
      room = omega (arith, grid.room);
      some = λ h. omega (arith, wide h, other.some (omega (arith, high)));
      last = λ missing k end. other.last (omega arith) k (omega (arith, wide (positive lines columns (omega arith))));
    }
