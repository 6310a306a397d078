-- Lines of which some places are filled with one cell.
use Rattle.std.specs.Prelude.{◌≡◌, ◌+◌, ◌-◌, ◌*◌, ◌<◌, ◌≤◌, ◌==◌, ◌&&◌, if◌then◌else◌, ◌∷◌}
use Rattle.cell.specs.{[], set, IsGrid, IsReached, with_blanks, cell_or, refl, AllByRecursion, ℕ, nat_le, nat_lt, List, length, replicate, get_or, ap, sym, arith, eq-eqb, ne_eqb, splice, cases_eq, nat_tests, length-replicate, get_or-replicate, rows, IsWhole}
use Rattle.cell.specs.{line_of}
use Rattle.cell.proofs.Blanks.{IsGrid-piece, blanks-piece}
use Rattle.cell.proofs.GridLemmas.{line_end}
use Rattle.cell.proofs.PictureLemmas.{each-replicate}
use Rattle.cell.proofs.PieceWrites.{PieceFits, PieceFits-from, length-splice, shown-piece}

-- what is put into a line that is filled fits into it
pub PieceFits-filled : {A : Type 0} {Is : A → Type 0} {lines columns y start end : ℕ} {cells : List A} {picture : List (List A)} (cell : A)
    → IsWhole Is lines columns cells → rows lines columns cells ≡ picture → y < length picture → start ≤ end → end ≤ length (line_of picture y)
    → PieceFits lines columns cells (replicate (end - start) cell) y start
PieceFits-filled {start = start} {end} cell grid is within ordered fits = PieceFits-from grid is within (omega (arith, length-replicate (end - start) cell))

pub splice-filled : {A : Type 0} (cell : A) (cells : List A) (start count : ℕ)
    → splice cells start (start + count) (replicate count cell) ≡ splice cells start (start + length (replicate count cell)) (replicate count cell)
splice-filled cell cells start count = ap (λ n. splice cells start (start + n) (replicate count cell)) (sym (length-replicate count cell))

-- what is shown where a line is filled
pub shown-filled : {A : Type 0} (none cell other : A) (y start end v u : ℕ) → start ≤ end
    → (if (v == y) && (nat_le start u && nat_lt u (start + length (replicate (end - start) cell))) then get_or (replicate (end - start) cell) (u - start) none else other)
    ≡ (if (v == y) && (nat_le start u && nat_lt u end) then cell else other)
shown-filled none cell other y start end v u ordered = grind (arith, length-replicate, cases_eq v y, eq-eqb, ne_eqb, nat_tests, get_or-replicate)

-- one place is filled
pub fill_one : {A : Type 0} (cells : List A) (cell : A) → length cells ≡ 1 → set cells 0 cell ≡ replicate (length cells) cell
fill_one [] cell one = absurd (omega arith)
fill_one (first ∷ []) cell one = refl
fill_one (first ∷ (second ∷ rest)) cell one = absurd (omega arith)

-- ---- line after line

-- some columns of the lines from the top, before line y, are filled, and the lines up to the bottom are there
pub record AreFilled {A : Type 0} (Is : A → Type 0) (blank : A) (lines columns top bottom start end y : ℕ) (cell : A) (old new : List A) (capacity : ℕ) : Type 0 where
  pub grid : IsGrid Is blank lines columns new capacity
  pub there : IsReached blank lines columns bottom new new
  pub filled : (v u : ℕ) → cell_or blank (rows lines columns (with_blanks blank (lines * columns) new)) (v, u)
      ≡ (if (nat_le top v && nat_lt v y) && (nat_le start u && nat_lt u end) then cell else cell_or blank (rows lines columns (with_blanks blank (lines * columns) old)) (v, u))

module _ {A : Type 0} {Is : A → Type 0} {blank : A} {lines columns top bottom start end y : ℕ} {cell : A} {old now : List A} {capacity capacity' : ℕ}
    (h : AreFilled Is blank lines columns top bottom start end y cell old now capacity) (from : top ≤ y) (to : y ≤ bottom) (below : bottom < lines)
    (ordered : start ≤ end) (left : end ≤ columns) (is : Is cell) (same : capacity' ≡ capacity) where
  abbrev piece : List A
  piece = replicate (end - start) cell

  long : length piece ≡ end - start
  long = length-replicate (end - start) cell

  reached : IsReached blank lines columns y now now
  reached =
      let before = line_end (bottom + 1) columns y (omega arith) in
      let there = h.there.there in
      record { same = refl; there = omega arith; above = λ missing. omega (arith, h.there.above missing) }

  fits : start + length piece ≤ columns
  fits = omega (arith, long)

  sound : AllByRecursion Is piece
  sound = each-replicate Is (end - start) cell is

  abbrev next : List A
  next = splice now (y * columns + start) (y * columns + start + length piece) piece

  pub filled-line : AreFilled Is blank lines columns top bottom start end (y + 1) cell old next capacity'
  filled-line =
      let whole = length-splice blank now piece (y * columns + start) (omega (arith, reached.there, fits)) in
      record {
        grid = IsGrid-piece y start h.grid reached (omega arith) same piece fits sound;
        there = record { same = refl; there = omega (arith, h.there.there); above = λ missing. omega (arith, h.there.above (omega arith)) };
        filled = λ v u.
            let put = shown-piece blank lines columns (with_blanks blank (lines * columns) now) piece y start h.grid.all (omega arith) fits sound v u in
            let kept = h.filled v u in
            let one = shown-filled blank cell (cell_or blank (rows lines columns (with_blanks blank (lines * columns) now)) (v, u)) y start end v u ordered in
            rw (blanks-piece y start h.grid reached (omega arith) same piece fits) (grind (arith, nat_tests, cases_eq, eq-eqb, ne_eqb));
      }
