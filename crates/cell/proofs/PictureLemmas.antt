-- Pictures of a known size: what each line has, and when two are equal.
use Rattle.std.specs.Prelude.{◌≡◌, ◌+◌, ◌<◌, ◌∷◌, ◌==◌, ◌&&◌, if◌then◌else◌}
use Rattle.cell.specs.{refl, ℕ, ◌∙◌, List, [], length, map, replicate, get_or, set, sym, arith, zero-add, lit≤, lit<, size_of, line_of, cell_or, HasSize, EachCell, all_of, lines_from}
use Rattle.cell.specs.{AllByRecursion, length-replicate, ext_get_or, All-from_recursion, recursion_from_All, All-get_or, All-map, All-replicate, All-set, length-map-range_with_len}
use Rattle.cell.specs.{get_or-map-range_with_len, length-set, cases_eq, nat_le, nat_lt, nat_tests, get_or-set_same, get_or-set_other, with_cell, blank, IsCell, no_rendition, IsRendition, shown_blank, IsShown, ArePairs, IsPair, default_pair, first_pairs}
use Rattle.cell.specs.declared.limits.TheConstants.{LAST_PAIR}

-- `AllByRecursion` of lists that are made by a rule

pub each-replicate : {X : Type 0} (P : X → Type 0) (n : ℕ) (x : X) → P x → AllByRecursion P (replicate n x)
each-replicate P n x h = recursion_from_All P (replicate n x) (All-replicate P n x h)

pub each-map : {X : Type 0} (P : X → Type 0) (f : ℕ → X) → ((k : ℕ) → P (f k)) → (ks : List ℕ) → AllByRecursion P (map f ks)
each-map P f h ks = recursion_from_All P (map f ks) (All-map P f ks (λ k d _. h (get_or ks k d)))

pub each-set : {X : Type 0} (P : X → Type 0) (xs : List X) (i : ℕ) (x : X) → P x → AllByRecursion P xs → AllByRecursion P (set xs i x)
each-set P xs i x h each = recursion_from_All P (set xs i x) (All-set P xs i x h (All-from_recursion P xs each))

-- sizes

pub length-line : {A : Type 0} {lines columns : ℕ} {picture : List (List A)} (y : ℕ) → HasSize lines columns picture → y < lines → length (line_of picture y) ≡ columns
length-line {A = A} {lines} {columns} {picture} y size h = grind (arith, All-get_or, All-from_recursion)

pub HasSize-all_of : {A : Type 0} (cell : A) (lines columns : ℕ) → HasSize lines columns (all_of cell lines columns)
HasSize-all_of cell lines columns = search (arith, length-replicate, each-replicate)

pub HasSize-lines_from : {A : Type 0} (lines columns : ℕ) (shown : ℕ → ℕ → A) → HasSize lines columns (lines_from lines columns shown)
HasSize-lines_from {A = A} lines columns shown = search (arith, length-map-range_with_len, each-map)

-- cells

pub IsCell-blank : IsCell blank
IsCell-blank = record { from_space = lit≤ tt; to_tilde = lit≤ tt; of_the_six = lit< tt; of_the_table = lit≤ tt }

pub IsRendition-none : IsRendition no_rendition
IsRendition-none = record { of_the_six = lit< tt; foreground = tt; background = tt }

pub IsShown-blank : IsShown shown_blank
IsShown-blank = record { from_space = lit≤ tt; to_tilde = lit≤ tt; rendition = IsRendition-none }

pub ArePairs-first : ArePairs first_pairs
ArePairs-first = record { all = length-replicate (LAST_PAIR + 1) default_pair; each = each-replicate IsPair (LAST_PAIR + 1) default_pair (tt, tt) }

pub EachCell-all_of : {A : Type 0} (Is : A → Type 0) (cell : A) (lines columns : ℕ) → Is cell → EachCell Is (all_of cell lines columns)
EachCell-all_of Is cell lines columns is = search (arith, each-replicate)

-- equal pictures

pub cell_or-lines_from : {A : Type 0} (none : A) (lines columns : ℕ) (shown : ℕ → ℕ → A) (y x : ℕ) → y < lines → x < columns
    → cell_or none (lines_from lines columns shown) (y, x) ≡ shown y x
cell_or-lines_from {A = A} none lines columns shown y x below left = grind (arith, get_or-map-range_with_len, zero-add)

pub same_pictures : {A : Type 0} (none : A) {lines columns : ℕ} {one other : List (List A)} → HasSize lines columns one → HasSize lines columns other
    → ((y x : ℕ) → y < lines → x < columns → cell_or none one (y, x) ≡ cell_or none other (y, x)) → one ≡ other
same_pictures none {lines} {columns} {one} {other} size other_size same =
    ext_get_or [] one other (size.height ∙ sym other_size.height) (λ y below.
    let within : y < lines = omega arith in
    let width = length-line y size within in
    ext_get_or none (line_of one y) (line_of other y) (width ∙ sym (length-line y other_size within)) (λ x left. same y x within (omega arith)))

-- one cell was changed

HasSize-with_cell : {A : Type 0} {lines columns : ℕ} {picture : List (List A)} (y x : ℕ) (cell : A) → HasSize lines columns picture → y < lines → HasSize lines columns (with_cell picture (y, x) cell)
HasSize-with_cell {A = A} {lines} {columns} {picture} y x cell size below = record {
  height = length-set picture y _ ∙ size.height;
  width = each-set (λ (line : List A). length line ≡ columns) picture y _ (length-set (line_of picture y) x cell ∙ length-line y size below) size.width;
}

pub one-cell : {A : Type 0} (none cell : A) {lines columns : ℕ} {old new : List (List A)} (y x : ℕ) → HasSize lines columns old → HasSize lines columns new → y < lines → x < columns
    → ((v u : ℕ) → cell_or none new (v, u) ≡ (if (v == y) && (nat_le x u && nat_lt u (x + 1)) then cell else cell_or none old (v, u))) → new ≡ with_cell old (y, x) cell
one-cell none cell {lines} {columns} {old} {new} y x size new_size below left shown =
    same_pictures none new_size (HasSize-with_cell y x cell size below) (λ v u v_below u_left.
    let width = length-line y size below in shown v u ∙ grind (arith, nat_tests, cases_eq, get_or-set_same, get_or-set_other))

first_width : {A : Type 0} (lines columns : ℕ) (one other : List (List A)) → HasSize lines columns one → HasSize lines columns other
    → length (line_of one 0) ≡ length (line_of other 0)
first_width lines columns [] [] size other_size = refl
first_width lines columns [] (line ∷ others) size other_size = absurd (omega (arith, size.height, other_size.height))
first_width lines columns (line ∷ others) [] size other_size = absurd (omega (arith, size.height, other_size.height))
first_width lines columns (line ∷ more) (other ∷ others) size other_size = size.width.0 ∙ sym other_size.width.0

pub same_size : {A : Type 0} {lines columns : ℕ} {one other : List (List A)} → HasSize lines columns one → HasSize lines columns other → size_of one ≡ size_of other
same_size {lines} {columns} {one} {other} size other_size = grind (arith, first_width)
