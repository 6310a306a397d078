-- A piece of a line of a grid that is written at once.
use Rattle.std.specs.Prelude.{◌≡◌, ◌∷◌, ◌+◌, ◌-◌, ◌*◌, ◌<◌, ◌≤◌, ◌==◌, ◌&&◌, if◌then◌else◌, ◌⊎◌}
use Rattle.cell.specs.{ℕ, suc, nat_le, nat_lt, true, false, List, [], length, map, take, drop, get_or, ap, sym, ◌∙◌, arith, length-append, eq-eqb, ne_eqb, AllByRecursion, splice, get_or-append}
use Rattle.cell.specs.{get_or-append_right, cases_lt, cases_order, cond-true, cond-false, nat_tests, get_or-map, get_or-take, get_or-drop, get_or_past, nil_from_length, length-map, length-take-le}
use Rattle.cell.specs.{length-drop, All-from_recursion, recursion_from_All, All-take, All-drop, All-append, line_of, cell_or, HasSize, rows, IsWhole}
use Rattle.cell.proofs.GridLemmas.{HasLine-from_length, length-rows, length-line_of-rows, line_of-rows, line_end}

module _ {A : Type 0} (none : A) (old piece : List A) (start : ℕ) (fits : start + length piece ≤ length old) where
  prefix : length (take start old) ≡ start
  prefix = length-take-le start old (omega (arith, fits))

  pub before : (n : ℕ) → n < start → get_or (splice old start (start + length piece) piece) n none ≡ get_or old n none
  before n below = grind (arith, get_or-append, prefix, get_or-take)

  pub within : (n : ℕ) → start ≤ n → n < start + length piece → get_or (splice old start (start + length piece) piece) n none ≡ get_or piece (n - start) none
  within n from to = grind (arith, get_or-append_right, prefix, get_or-append)

  pub beyond : (n : ℕ) → start + length piece ≤ n → get_or (splice old start (start + length piece) piece) n none ≡ get_or old n none
  beyond n from = grind (arith, get_or-append_right, prefix, get_or-drop)

  pub length-splice : length (splice old start (start + length piece) piece) ≡ length old
  length-splice = grind (arith, length-append, prefix, length-drop, fits)

-- what a grid shows at a place

pub shown-rows : {A : Type 0} (none : A) (lines columns : ℕ) (cells : List A) (v u : ℕ) → v < lines → u < columns → cell_or none (rows lines columns cells) (v, u) ≡ get_or cells (v * columns + u) none
shown-rows {A = A} none lines columns cells v u below left = grind (arith, line_of-rows, below, get_or-take, get_or-drop)

pub shown-outside : {A : Type 0} (none : A) {Is : A → Type 0} (lines columns : ℕ) (cells : List A) → IsWhole Is lines columns cells → (v u : ℕ) → (lines ≤ v) ⊎ (columns ≤ u)
    → cell_or none (rows lines columns cells) (v, u) ≡ none
shown-outside none lines columns cells grid v u out = grind (arith, cases_lt, get_or_past, length-rows, length-line_of-rows)

inside : (v u y x n : ℕ) → v ≡ y → x ≤ u → u < x + n → ((v == y) && (nat_le x u && nat_lt u (x + n))) ≡ true
inside v u y x n line from to = grind (arith, nat_tests)

outside : (v u y x n : ℕ) → ((v ≡ y) → (x ≤ u) → (u < x + n) → ⊥) → ((v == y) && (nat_le x u && nat_lt u (x + n))) ≡ false
outside v u y x n other = grind (arith, eq-eqb, nat_tests, ne_eqb)

pub piece_end : {A B : Type 0} {Is : A → Type 0} (lines columns : ℕ) (cells : List A) (piece : List B) (y x : ℕ) → IsWhole Is lines columns cells → y < lines → x + length piece ≤ columns
    → y * columns + x + length piece ≤ length cells
piece_end lines columns cells piece y x grid below fits = omega (arith, grid.whole, line_end lines columns y below, fits)

-- a piece anywhere

pub IsWhole-splice : {A : Type 0} (none : A) {Is : A → Type 0} (lines columns : ℕ) (cells piece : List A) (start : ℕ) → IsWhole Is lines columns cells → start + length piece ≤ length cells
    → AllByRecursion Is piece → IsWhole Is lines columns (splice cells start (start + length piece) piece)
IsWhole-splice none lines columns cells piece start grid fits sound = search (arith, length-splice, recursion_from_All, All-append, All-take, All-from_recursion, All-drop)

-- a piece of line y from column x on
module _ {A : Type 0} (none : A) {Is : A → Type 0} (lines columns : ℕ) (cells piece : List A) (y x : ℕ) (grid : IsWhole Is lines columns cells) (below : y < lines)
    (fits : x + length piece ≤ columns) where
  abbrev after : List A
  after = splice cells (y * columns + x) (y * columns + x + length piece) piece

  pub IsWhole-piece : AllByRecursion Is piece → IsWhole Is lines columns after
  IsWhole-piece sound = IsWhole-splice none lines columns cells piece (y * columns + x) grid (piece_end lines columns cells piece y x grid below fits) sound

  at_place : (v u : ℕ) → v < lines → u < columns → get_or after (v * columns + u) none ≡ (if (v == y) && (nat_le x u && nat_lt u (x + length piece)) then get_or piece (u - x) none else get_or cells
      (v * columns + u) none)
  at_place v u above left = grind (arith, cases_order, cases_lt, before, within, beyond, piece_end, line_end, inside, outside, below, fits, cond-true, cond-false)

  pub shown-piece : AllByRecursion Is piece → (v u : ℕ)
      → cell_or none (rows lines columns after) (v, u) ≡ (if (v == y) && (nat_le x u && nat_lt u (x + length piece)) then get_or piece (u - x) none else cell_or none (rows lines columns cells) (v, u))
  shown-piece sound v u = grind (arith, IsWhole-piece, shown-rows, at_place, shown-outside, outside, fits, below)

-- a piece made of another one by a function

pub splice-made : {A B : Type 0} (f : A → B) (cells : List B) (piece : List A) (start : ℕ)
    → splice cells start (start + length piece) (map f piece) ≡ splice cells start (start + length (map f piece)) (map f piece)
splice-made f cells piece start = ap (λ n. splice cells start (start + n) (map f piece)) (sym (length-map piece f))

module _ {A B : Type 0} (f : A → B) (none : A) (other : B) {Is : B → Type 0} (lines columns : ℕ) (cells : List B) (piece : List A) (y x : ℕ) (grid : IsWhole Is lines columns cells)
    (below : y < lines) (fits : x + length piece ≤ columns) (sound : AllByRecursion Is (map f piece)) where
  same_length : length (map f piece) ≡ length piece
  same_length = length-map piece f

  pub shown-made : (v u : ℕ) → cell_or other (rows lines columns (splice cells (y * columns + x) (y * columns + x + length piece) (map f piece))) (v, u)
      ≡ (if (v == y) && (nat_le x u && nat_lt u (x + length piece)) then f (get_or piece (u - x) none) else cell_or other (rows lines columns cells) (v, u))
  shown-made v u = grind (arith, same_length, shown-piece, below, fits, get_or-map, outside)

-- a piece that is there already
module _ {A B : Type 0} (f : A → B) (none : A) (other : B) (lines : List (List B)) (piece : List A) (y x : ℕ) (same : take (length piece) (drop x (line_of lines y)) ≡ map f piece) where
  there : (u : ℕ) → x ≤ u → u < x + length piece → get_or (line_of lines y) u other ≡ f (get_or piece (u - x) none)
  there u from to =
      let short : u - x < length piece = omega (arith, from, to) in
      let at : x + (u - x) ≡ u = omega (arith, from) in
      ap (λ n. get_or (line_of lines y) n other) (sym at) ∙ sym (get_or-drop x (line_of lines y) (u - x) other) ∙ sym (get_or-take (length piece) (drop x (line_of lines y)) (u - x) other short)
      ∙ ap (λ l. get_or l (u - x) other) same ∙ get_or-map f piece (u - x) none other short

  pub shown-kept : (v u : ℕ) → cell_or other lines (v, u) ≡ (if (v == y) && (nat_le x u && nat_lt u (x + length piece)) then f (get_or piece (u - x) none) else cell_or other lines (v, u))
  shown-kept v u = grind (arith, there, cases_order, cases_lt, inside, outside, cond-true, cond-false)

-- grids of one size

widths : {A : Type 0} (width : ℕ) (one other : List (List A)) → length one ≡ length other → ((k : ℕ) → length (line_of one k) ≡ length (line_of other k))
    → AllByRecursion (λ (line : List A). length line ≡ width) one → AllByRecursion (λ (line : List A). length line ≡ width) other
widths width [] other e same h = grind (arith, nil_from_length)
widths width (line ∷ lines) [] e same h = absurd (omega arith)
widths width (line ∷ lines) (other ∷ others) e same h = (sym (same 0) ∙ h.0, widths width lines others (omega arith) (λ k. same (suc k)) h.1)

pub line_width : {A : Type 0} {Is : A → Type 0} (lines columns : ℕ) (one other : List A) → IsWhole Is lines columns one → IsWhole Is lines columns other → (k : ℕ)
    → length (line_of (rows lines columns one) k) ≡ length (line_of (rows lines columns other) k)
line_width {A = A} lines columns one other grid grid' k = grind (arith, cases_lt, length-line_of-rows, get_or_past, length-rows)

pub HasSize-same : {A : Type 0} {Is : A → Type 0} {height width lines columns : ℕ} {one other : List A} → IsWhole Is lines columns one → IsWhole Is lines columns other
    → HasSize height width (rows lines columns one) → HasSize height width (rows lines columns other)
HasSize-same {height} {width} {lines} {columns} {one} {other} grid grid' size = grind (arith, length-rows, widths, line_width)

-- a piece that fits into a line of the picture fits into the line of the grid
pub record PieceFits {A B : Type 0} (lines columns : ℕ) (cells : List A) (piece : List B) (y x : ℕ) : Type 0 where
  pub below : y < lines
  pub fits : x + length piece ≤ columns
  pub end : y * columns + x + length piece ≤ length cells
  pub few : length cells ≤ 1000000

pub PieceFits-from : {A B : Type 0} {Is : A → Type 0} {lines columns y x : ℕ} {cells : List A} {piece : List B} {picture : List (List A)}
    → IsWhole Is lines columns cells → rows lines columns cells ≡ picture → y < length picture → x + length piece ≤ length (line_of picture y) → PieceFits lines columns cells piece y x
PieceFits-from {lines} {columns} {y} {x} {cells} {piece} grid is within fits = grind (arith, HasLine-from_length, length-line_of-rows, piece_end)
