-- How many cells update_panels reads: as many as there are damaged columns. That is at least as many as it changes, and at most all of the
-- damaged lines.
use Rattle.std.specs.Prelude.{◌≡◌, ◌+◌, ◌-◌, ◌*◌, ◌<◌, ◌≤◌, if◌then◌else◌, ◌∷◌}
use Rattle.compose.specs.{ℕ, zero, suc, max, Bool, true, false, Option, Some, None, is_some, List, [], length, arith, nat_tests, slice_index_or, count_by, range_with_len, sum_by-cons, and_from}
use Rattle.compose.specs.{eq-eqb, difference, line_difference, same_shown, Picture, line_of, Shown, shown_blank, AreColumnsWithin, among, Columns, columns_of, has_columns, cells_above, cells_of_line}

-- ---- at most the columns of each damaged line

line-few : (columns : ℕ) (c : Option Columns) → AreColumnsWithin columns c → cells_of_line c ≤ (if is_some c then 1 else 0) * columns
line-few columns c h = grind arith

count-first : (test : ℕ → Bool) (s n : ℕ) → count_by test (range_with_len s (suc n)) ≡ (if test s then 1 else 0) + count_by test (range_with_len (s + 1) n)
count-first test s n = sum_by-cons (λ x. if test x then 1 else 0) s (range_with_len (s + 1) n)

times-sum : (a b n : ℕ) → (a + b) * n ≡ a * n + b * n
times-sum a b n = grind arith

pub few-cells : (columns : ℕ) (d : List (Option Columns)) → ((y : ℕ) → AreColumnsWithin columns (columns_of d y)) → (n s : ℕ)
    → cells_above d (s + n) ≤ cells_above d s + count_by (has_columns d) (range_with_len s n) * columns
few-cells columns d h zero s = let e : s + 0 ≡ s = omega arith in rw e (omega arith)
few-cells columns d h (suc n) s =
    rw (count-first (has_columns d) s n, times-sum (if has_columns d s then 1 else 0) (count_by (has_columns d) (range_with_len (s + 1) n)) columns)
    (grind (arith, (few-cells columns d h n (s + 1)), (line-few columns (columns_of d s) (h s))))

-- ---- at least the places that differ

-- the damaged columns from s on
abbrev columns-from : Option Columns → ℕ → ℕ
columns-from None s = 0
columns-from (Some r) s = r.last + 1 - max s r.first

cell-differs : (c : Option Columns) (s rest : ℕ) (b : Bool) → (among c s ≡ false → b ≡ true) → rest ≤ columns-from c (s + 1) → (if b then 0 else 1) + rest ≤ columns-from c s
cell-differs c s rest b h below = grind (arith, nat_tests)

line-differs : (c : Option Columns) (s : ℕ) (a b : List Shown) → ((x : ℕ) → x < length a → among c (s + x) ≡ false → slice_index_or a x shown_blank ≡ slice_index_or b x shown_blank)
    → length a ≡ length b → line_difference a b ≤ columns-from c s
line-differs c s [] b h same = omega arith
line-differs c s (p ∷ a) [] h same = omega arith
line-differs c s (p ∷ a) (q ∷ b) h same =
    cell-differs c s (line_difference a b) (same_shown p q) (λ off. grind (arith, (h 0), and_from, eq-eqb))
    (line-differs c (s + 1) a b (λ x below off. grind (arith, (h (suc x)))) (omega (arith, same)))

-- pictures that are the same where nothing is damaged
pub differs-less : (d : List (Option Columns)) (s : ℕ) (old new : Picture)
    → ((y x : ℕ) → y < length old → x < length (line_of old y) → among (columns_of d (s + y)) x ≡ false → slice_index_or (line_of old y) x shown_blank ≡ slice_index_or (line_of new y) x shown_blank)
    → ((y : ℕ) → y < length old → length (line_of old y) ≡ length (line_of new y)) → length old ≡ length new → difference old new + cells_above d s ≤ cells_above d (s + length old)
differs-less d s [] new h wide same = let e : s + 0 ≡ s = omega arith in rw e (omega arith)
differs-less d s (line ∷ old) [] h wide same = cc
differs-less d s (line ∷ old) (other ∷ new) h wide same =
    let first = line-differs (columns_of d s) 0 line other (λ x below off. grind (arith, (h 0 x))) (wide 0 (omega arith)) in
    let rest = differs-less d (s + 1) old new (λ y x below inside off. grind (arith, (h (suc y) x))) (λ y below. wide (suc y) (omega arith)) (omega (arith, same)) in
    grind (arith, first, rest)
