-- A drawing is laid over a picture line by line.
use Rattle.std.specs.Prelude.{◌≡◌, ◌+◌, ◌<◌, ◌≤◌, ◌==◌, ◌&&◌, if◌then◌else◌}
use Rattle.compose.specs.{ℕ, Bool, true, false, nat_le, nat_lt, Option, Some, None, inl, inr, refl, sym, ◌∙◌, arith, option_map_or, cases_eq, cases_lt, eq-eqb, ne_eqb, Glyph, Picture, HasSize}
use Rattle.compose.specs.{picture_of, shown_at, Pairs, Shown, shown, shown_blank, Drawing, shown_over}
use Rattle.cell.proofs.PictureLemmas.{HasSize-lines_from, cell_or-lines_from, same_pictures}

-- the drawing has no cell on line y
abbrev pub IsBare : Drawing → ℕ → ℕ → Type 0
IsBare f columns y = (u : ℕ) → u < columns → f y u ≡ None

-- on line y it has n cells from column x on
abbrev pub HasPiece : Drawing → ℕ → ℕ → ℕ → ℕ → (ℕ → Glyph) → Type 0
HasPiece f columns y x n cell = (u : ℕ) → u < columns → f y u ≡ (if nat_le x u && nat_lt u (x + n) then Some (cell u) else None)

-- the drawing is laid over the lines before y, and the others are those of the old picture
pub record LaidAbove (pairs : Pairs) (f : Drawing) (lines columns : ℕ) (old : Picture) (y : ℕ) (picture : Picture) : Type 0 where
  pub size : HasSize lines columns picture
  pub above : (v u : ℕ) → v < y → u < columns → shown_at picture (v, u) ≡ shown_over pairs old f v u
  pub below : (v u : ℕ) → y ≤ v → u < columns → shown_at picture (v, u) ≡ shown_at old (v, u)

shown-bare : (pairs : Pairs) (other : Shown) (o : Option Glyph) → o ≡ None → other ≡ option_map_or (shown pairs) o other
shown-bare pairs other o h = rw h refl

shown-piece : (pairs : Pairs) (t : Bool) (cell : Glyph) (other : Shown) → (if t then shown pairs cell else other) ≡ option_map_or (shown pairs) (if t then Some cell else None) other
shown-piece pairs t cell other = grind arith

-- this line or another
line-is : {A : Type 0} (line rest : Bool) (one other : A) → line ≡ true → (if line && rest then one else other) ≡ (if rest then one else other)
line-is line rest one other h = rw h refl

line-isnt : {A : Type 0} (line rest : Bool) (one other : A) → line ≡ false → (if line && rest then one else other) ≡ other
line-isnt line rest one other h = rw h refl

module _ (pairs : Pairs) (f : Drawing) (lines columns : ℕ) (old : Picture) where
  -- one line more, on which the drawing has nothing
  pub laid-bare : (y : ℕ) (now : Picture) → LaidAbove pairs f lines columns old y now → IsBare f columns y → LaidAbove pairs f lines columns old (y + 1) now
  laid-bare y now h bare = grind (arith, cases_eq, shown-bare)

  -- one line more, on which it has a piece
  pub laid-more : (y x n : ℕ) (cell : ℕ → Glyph) (now next : Picture) → LaidAbove pairs f lines columns old y now → HasPiece f columns y x n cell
      → ((v u : ℕ) → shown_at next (v, u) ≡ (if (v == y) && (nat_le x u && nat_lt u (x + n)) then shown pairs (cell u) else shown_at now (v, u)))
      → HasSize lines columns next → LaidAbove pairs f lines columns old (y + 1) next
  laid-more y x n cell now next h piece line size = grind (arith, cases_eq, line-is, eq-eqb, shown-piece, line-isnt, ne_eqb)

  pub laid-all : (y : ℕ) (picture : Picture) → LaidAbove pairs f lines columns old y picture → ((v : ℕ) → y ≤ v → v < lines → IsBare f columns v)
      → picture ≡ picture_of lines columns (shown_over pairs old f)
  laid-all y picture h bare =
      same_pictures shown_blank h.size (HasSize-lines_from lines columns (shown_over pairs old f)) (λ v u below left.
      laid-at v u below left ∙ sym (cell_or-lines_from shown_blank lines columns (shown_over pairs old f) v u below left)) where
        laid-at : (v u : ℕ) → v < lines → u < columns → shown_at picture (v, u) ≡ shown_over pairs old f v u
        laid-at v u below left = elim (cases_lt v y) [
          | inl before ↦ h.above v u before left
          | inr from ↦ h.below v u from left ∙ shown-bare pairs (shown_at old (v, u)) (f v u) (bare v from below u left)
        ]
