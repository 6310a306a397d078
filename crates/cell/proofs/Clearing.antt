-- A grid with one cell everywhere.
use Rattle.std.specs.Prelude.{◌≡◌, ◌<◌}
use Rattle.cell.specs.{ℕ, List, length, replicate, sym, ◌∙◌, arith, cases_eq, HasSize, all_of, rows, IsWhole}
use Rattle.cell.proofs.GridLemmas.{length-rows, length-line_of-rows, rows-all_of}
use Rattle.cell.proofs.PictureLemmas.{length-line}

all_of-size : {A : Type 0} (cell : A) (lines columns height width : ℕ) → lines ≡ height → (0 < lines → columns ≡ width) → all_of cell lines columns ≡ all_of cell height width
all_of-size cell lines columns height width high wide = grind (arith, cases_eq lines 0)

pub cleared : {A : Type 0} {Is : A → Type 0} {lines columns : ℕ} {old new : List A} (cell : A) → IsWhole Is lines columns old → new ≡ replicate (length old) cell
    → (height width : ℕ) → HasSize height width (rows lines columns old) → rows lines columns new ≡ all_of cell height width
cleared {lines} {columns} {old} {new} cell grid e height width size =
    rw (e, grid.whole, rows-all_of cell lines columns) (all_of-size cell lines columns height width (grind (arith, length-rows))
    (λ some. sym (length-line_of-rows lines columns old 0 grid some) ∙ length-line 0 size (omega (arith, size.height, length-rows lines columns old))))
