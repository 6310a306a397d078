-- Damaged lines are composed one after another.
use Rattle.std.specs.Prelude.{◌≡◌, ◌+◌, ◌-◌, ◌*◌, ◌<◌, ◌≤◌, ◌==◌, ◌&&◌, if◌then◌else◌}
use Rattle.picture.specs.{ℕ, zero, suc, false, nat_le, nat_lt, Option, Some, None, List, length, refl, sym, ap, subst, ◌∙◌, arith, get_or-set_other, get_or-set_same, slice_set, mul-le-mul_left}
use Rattle.picture.specs.{mul-le-mul_right, cases_eq, eq-eqb, ne_eqb, nat_tests, length-set, Picture, HasSize, shown_at, Shown, LARGEST_SCREEN, AreColumnsWithin, Columns, columns_of, is_among}
use Rattle.picture.specs.{cells_above, cells_of_line}
use Rattle.picture.proofs.Lines.{ShownAbove}

-- ---- how many cells

above-most : (columns : ℕ) (d : List (Option Columns)) → ((y : ℕ) → AreColumnsWithin columns (columns_of d y)) → (y : ℕ) → cells_above d y ≤ y * columns
above-most columns d h zero = omega arith
above-most columns d h (suc y) = grind (arith, (above-most columns d h y))

-- with one line more they are fewer than can be counted
pub fits-more : (lines columns : ℕ) (d : List (Option Columns)) → ((y : ℕ) → AreColumnsWithin columns (columns_of d y)) → lines ≤ LARGEST_SCREEN → columns ≤ LARGEST_SCREEN
    → (y : ℕ) (r : Columns) → y < lines → columns_of d y ≡ Some r → cells_above d y + (r.last - r.first + 1) < 4294967296
fits-more lines columns d h few_lines few_columns y r below is =
    let above = above-most columns d h y in
    let within : (r.first ≤ r.last) × (r.last < columns) = subst (λ o. AreColumnsWithin columns o) is (h y) in
    let last = within.1 in
    let one : y * columns ≤ y * LARGEST_SCREEN = mul-le-mul_left {m = columns} {n = LARGEST_SCREEN} y few_columns in
    let all : y * LARGEST_SCREEN ≤ LARGEST_SCREEN * LARGEST_SCREEN = mul-le-mul_right {m = y} {n = LARGEST_SCREEN} LARGEST_SCREEN (omega (arith, below, few_lines)) in
    omega (arith, above, last, one, all, few_columns)

-- lines that aren't damaged have none
pub no-more : (d : List (Option Columns)) (from : ℕ) (n : ℕ) → ((v : ℕ) → from ≤ v → v < from + n → columns_of d v ≡ None) → cells_above d (from + n) ≡ cells_above d from
no-more d from zero none = ap (cells_above d) (omega arith)
no-more d from (suc n) none =
    let next : from + suc n ≡ suc (from + n) = omega arith in
    let before = no-more d from n (λ v a b. none v a (let c = b in omega (arith, c))) in
    let line : cells_of_line (columns_of d (from + n)) ≡ 0 = ap cells_of_line (none (from + n) (omega arith) (omega arith)) in
    let sum : cells_above d (suc (from + n)) ≡ cells_above d (from + n) + cells_of_line (columns_of d (from + n)) = refl in
    ap (cells_above d) next ∙ omega (arith, before, line, sum)

pub no-more-to : (d : List (Option Columns)) (from to : ℕ) → from ≤ to → ((v : ℕ) → from ≤ v → v < to → columns_of d v ≡ None) → cells_above d to ≡ cells_above d from
no-more-to d from to upto none =
    let is : from + (to - from) ≡ to = omega (arith, upto) in
    sym (ap (cells_above d) is) ∙ no-more d from (to - from) (λ v a b. none v a (let c = b in omega (arith, c, is)))

-- ---- lines

-- The damaged places of the lines before y are composed, and these lines are not damaged any more. The others are as they were.
pub record ComposedAbove (f : ℕ → ℕ → Shown) (lines columns : ℕ) (before : List (Option Columns)) (old : Picture) (y : ℕ) (damage : List (Option Columns)) (picture : Picture) : Type 0 where
  pub height : length damage ≡ lines
  pub above : ShownAbove f lines columns y picture
  pub below : (v u : ℕ) → y ≤ v → shown_at picture (v, u) ≡ shown_at old (v, u)
  pub left : (v : ℕ) → y ≤ v → columns_of damage v ≡ columns_of before v
  pub done : (v : ℕ) → v < y → columns_of damage v ≡ None

module _ (f : ℕ → ℕ → Shown) (lines columns : ℕ) (before : List (Option Columns)) (old : Picture)
    (covered : (y x : ℕ) → y < lines → x < columns → is_among before y x ≡ false → shown_at old (y, x) ≡ f y x) where
  pub composed-none : length before ≡ lines → HasSize lines columns old → ComposedAbove f lines columns before old 0 before old
  composed-none height size = grind arith

  -- a line that isn't damaged
  pub composed-bare : (y : ℕ) (damage : List (Option Columns)) (now : Picture) → ComposedAbove f lines columns before old y damage now → y < lines → columns_of damage y ≡ None
      → ComposedAbove f lines columns before old (y + 1) damage now
  composed-bare y damage now h inside none = grind (arith, cases_eq)

  -- a line with damaged columns
  pub composed-more : (y : ℕ) (r : Columns) (damage : List (Option Columns)) (now next : Picture) → ComposedAbove f lines columns before old y damage now → y < lines → columns_of damage y ≡ Some r
      → ((v u : ℕ) → shown_at next (v, u) ≡ (if (v == y) && (nat_le r.first u && nat_lt u (r.last + 1)) then f y u else shown_at now (v, u))) → HasSize lines columns next
      → ComposedAbove f lines columns before old (y + 1) (slice_set damage y None) next
  composed-more y r damage now next h inside some line size = grind (arith, length-set, cases_eq, eq-eqb, nat_tests, ne_eqb, get_or-set_other, get_or-set_same)

  -- lines that aren't damaged
  composed-steps : (y n : ℕ) (damage : List (Option Columns)) (now : Picture) → ComposedAbove f lines columns before old y damage now → y + n ≤ lines
      → ((v : ℕ) → y ≤ v → v < y + n → columns_of damage v ≡ None) → ComposedAbove f lines columns before old (y + n) damage now
  composed-steps y zero damage now h inside none = grind arith
  composed-steps y (suc n) damage now h inside none = grind (arith, composed-bare, (composed-steps y n damage now h (omega (arith, inside)) (λ v a b. none v a (let c = b in omega (arith, c)))))

  pub composed-to : (y to : ℕ) (damage : List (Option Columns)) (now : Picture) → ComposedAbove f lines columns before old y damage now → y ≤ to → to ≤ lines
      → ((v : ℕ) → y ≤ v → v < to → columns_of damage v ≡ None) → ComposedAbove f lines columns before old to damage now
  composed-to y to damage now h upto inside none = grind (arith, composed-steps)
