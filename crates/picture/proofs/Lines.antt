-- A picture is made line by line, and a line column by column.
use Rattle.std.specs.Prelude.{◌≡◌, ◌<◌, ◌≤◌, ◌==◌, ◌&&◌, if◌then◌else◌}
use Rattle.picture.specs.{ℕ, nat_le, nat_lt, length, sym, ◌∙◌, arith, Shown, shown_blank, Picture, HasSize, picture_of, line_of, shown_at}
use Rattle.cell.proofs.PictureLemmas.{HasSize-lines_from, same_pictures, cell_or-lines_from}

-- the columns of line y from a first one on and before x are made, and all others are those of the old picture
pub record LineShown (f : ℕ → Shown) (y start x : ℕ) (old picture : Picture) : Type 0 where
  pub shown : (v u : ℕ) → shown_at picture (v, u) ≡ (if (v == y) && (nat_le start u && nat_lt u x) then f u else shown_at old (v, u))
  pub size : (lines columns : ℕ) → HasSize lines columns old → HasSize lines columns picture
  pub height : length picture ≡ length old
  pub width : length (line_of picture y) ≡ length (line_of old y)

-- the lines before y are made
pub record ShownAbove (f : ℕ → ℕ → Shown) (lines columns y : ℕ) (picture : Picture) : Type 0 where
  pub size : HasSize lines columns picture
  pub shown : (v u : ℕ) → v < y → u < columns → shown_at picture (v, u) ≡ f v u

pub shown-all : (f : ℕ → ℕ → Shown) (lines columns y : ℕ) (picture : Picture) → lines ≤ y → ShownAbove f lines columns y picture → picture ≡ picture_of lines columns f
shown-all f lines columns y picture all so_far =
    same_pictures shown_blank so_far.size (HasSize-lines_from lines columns f) (λ v u below left.
    so_far.shown v u (omega arith) left ∙ sym (cell_or-lines_from shown_blank lines columns f v u below left))
