-- The columns in which two pictures may differ are copied from one to the other.
use Rattle.std.proofs.lemmas.Grind.{common_steps}
use Rattle.std.specs.Prelude.{◌≡◌, ◌+◌, ◌-◌, ◌<◌, ◌≤◌, ◌==◌, ◌&&◌, if◌then◌else◌}
use Rattle.paint.specs.{ℕ, nat_le, nat_lt, Option, None, List, length, get_or, take, drop, arith, cases_eq, cases_lt, nat_tests, get_or-drop, get_or-take, get_or_past, Picture}
use Rattle.paint.specs.{HasSize, line_of, shown_at, Shown, shown_blank, Columns, DifferOnly, IsWithin, columns_of}
use Rattle.cell.proofs.PictureLemmas.{length-line, same_pictures}

-- nothing but blanks is shown outside of a picture
shown-outside : {lines columns : ℕ} {picture : Picture} → HasSize lines columns picture → (y x : ℕ) → (y < lines → x < columns → ⊥) → shown_at picture (y, x) ≡ shown_blank
shown-outside {lines} {columns} {picture} size y x out = grind (arith, cases_lt, get_or_past, length-line, common_steps)

pub same-outside : {lines columns : ℕ} {one other : Picture} → HasSize lines columns one → HasSize lines columns other → (y x : ℕ) → (y < lines → x < columns → ⊥)
    → shown_at one (y, x) ≡ shown_at other (y, x)
same-outside size other_size y x out = grind (arith, shown-outside)

-- ---- a line is copied

module _ {lines columns : ℕ} {changes : List (Option Columns)} {old new wanted : Picture} (old_size : HasSize lines columns old) (new_size : HasSize lines columns new)
    (wanted_size : HasSize lines columns wanted)
    (only : DifferOnly changes old wanted) (y : ℕ) (below : y < lines) {part : ℕ × ℕ} (within : IsWithin columns (columns_of changes y) part) (piece : List Shown)
    (is : piece ≡ take (part.1 - part.0) (drop part.0 (line_of wanted y))) (long : length piece ≡ part.1 - part.0)
    (put : (v u : ℕ) → shown_at new (v, u) ≡ (if (v == y) && (nat_le part.0 u && nat_lt u (part.0 + length piece)) then get_or piece (u - part.0) shown_blank else shown_at old (v, u))) where
  put-there : (v u : ℕ) → v ≡ y → part.0 ≤ u → u < part.1 → shown_at new (v, u) ≡ shown_at wanted (v, u)
  put-there v u line from to = grind (arith, nat_tests, get_or-take, get_or-drop)

  -- what was right stays right
  stays : (v u : ℕ) → shown_at old (v, u) ≡ shown_at wanted (v, u) → shown_at new (v, u) ≡ shown_at wanted (v, u)
  stays v u right = grind (arith, cases_eq, nat_tests, cases_lt, put-there)

  pub still-only : DifferOnly changes new wanted
  still-only = grind (arith, stays)

  here : (u : ℕ) → shown_at new (y, u) ≡ shown_at wanted (y, u)
  here u = grind (arith, cases_lt, stays, put-there, same-outside)

  pub one-more : ((v u : ℕ) → v < y → shown_at old (v, u) ≡ shown_at wanted (v, u)) → (v u : ℕ) → v < y + 1 → shown_at new (v, u) ≡ shown_at wanted (v, u)
  one-more done v u few = grind (arith, cases_lt, stays, here)

-- lines without such columns
pub none-there : {changes : List (Option Columns)} {one other : Picture} → DifferOnly changes one other → (y x : ℕ) → columns_of changes y ≡ None → shown_at one (y, x) ≡ shown_at other (y, x)
none-there only y x none = grind arith

pub all-copied : {lines columns : ℕ} {one other : Picture} → HasSize lines columns one → HasSize lines columns other → (n : ℕ) → lines ≤ n
    → ((v u : ℕ) → v < n → shown_at one (v, u) ≡ shown_at other (v, u)) → one ≡ other
all-copied size other_size n far done = same_pictures shown_blank size other_size (λ y x below left. done y x (omega (arith, below, far)))
