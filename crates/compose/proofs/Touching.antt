-- The touched columns of a window are damaged line by line.
use Rattle.std.specs.Prelude.{◌≡◌, ◌+◌, ◌<◌, ◌≤◌, ◌&&◌, ◌||◌, if◌then◌else◌}
use Rattle.compose.specs.{ℕ, Bool, true, nat_lt, Option, Some, None, is_some, List, arith, nat_tests, and_from, and_parts, cases_lt, lt-ltb, ltb-true, Glyph, Rect, Drawing, Columns, frame_holds}
use Rattle.compose.specs.{Damages}
use Rattle.picture.proofs.DamageLaws.{damages-as, damages-none, damages-then}
use Rattle.compose.proofs.Laying.{HasPiece, IsBare}

-- what the drawing has on the lines before n is damaged
abbrev pub DamagedAbove : ℕ → Drawing → List (Option Columns) → ℕ → List (Option Columns) → Type 0
DamagedAbove columns f old n now = Damages columns (λ v u. nat_lt v n && is_some (f v u)) old now

pub in-piece : (t : Bool) (cell : Glyph) → is_some (if t then Some cell else None) ≡ true → t ≡ true
in-piece t cell h = grind arith

pub of-piece : (t : Bool) (cell : Glyph) → t ≡ true → is_some (if t then Some cell else None) ≡ true
of-piece t cell h = grind arith

module _ (columns : ℕ) (f : Drawing) (old : List (Option Columns)) where
  pub above-none : (n : ℕ) → ((v : ℕ) → v < n → IsBare f columns v) → DamagedAbove columns f old n old
  above-none n bare = grind (arith, damages-none, ltb-true)

  pub above-bare : (n : ℕ) (now : List (Option Columns)) → DamagedAbove columns f old n now → IsBare f columns n → DamagedAbove columns f old (n + 1) now
  above-bare n now h bare = damages-as columns _ _ old now h (λ v u below on is. grind (arith, nat_tests, (bare u))) (λ v u on is. grind (arith, nat_tests))

  pub above-more : (n x k : ℕ) (cell : ℕ → Glyph) (r : Rect) (now new : List (Option Columns)) → DamagedAbove columns f old n now → HasPiece f columns n x k cell → 0 < k → x < columns
      → r.top ≡ n → r.bottom ≡ n → r.left ≡ x → r.right + 1 ≡ x + k → Damages columns (frame_holds r) now new → DamagedAbove columns f old (n + 1) new
  above-more n x k cell r now new h piece some inside top bottom left right line =
      damages-as columns (λ v u. (nat_lt v n && is_some (f v u)) || frame_holds r v u) (λ v u. nat_lt v (n + 1) && is_some (f v u)) old new
      (damages-then columns (λ v u. nat_lt v n && is_some (f v u)) (frame_holds r) old now new h line)
      (λ v u below on is. grind (arith, nat_tests, (piece u))) (λ v u on is. grind (arith, nat_tests, (piece u)))

  pub above-all : (n : ℕ) (now : List (Option Columns)) → DamagedAbove columns f old n now → ((v : ℕ) → n ≤ v → IsBare f columns v) → Damages columns (λ v u. is_some (f v u)) old now
  above-all n now h bare = grind (arith, damages-as, cases_lt, and_from, lt-ltb, and_parts)
