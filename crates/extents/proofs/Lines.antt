-- The lines that have columns, one after another; and a rectangle that is added line by line.
use Rattle.std.proofs.Common.{◌≡◌, ℕ, ◌+◌, ◌-◌, ◌<◌, ◌≤◌, ◌&&◌, true, false, nat_le, nat_lt, if◌then◌else◌, List, Option, Some, None, is_some, length, set, refl, subst, sym, ◌∙◌, arith, rules}
use Rattle.std.specs.Prelude.{MatchOption, replicate, slice_set}
use Rattle.std.specs.Option.{option_map_or}
use Rattle.std.proofs.Common.{get_or-set_other, get_or-set_same}
use Rattle.std.proofs.lemmas.Bool.{and_from, cases_eq, cases_lt, le-leb, lt-ltb}
use Rattle.std.proofs.lemmas.Bool.Decides.{nat_tests}
use Rattle.std.proofs.lemmas.List.{ext_get_or, length-set}
use Rattle.std.proofs.lemmas.Simd.{get_or-replicate, length-replicate}
use Rattle.cell.specs.declared.window.Rect.{Rect}
use Rattle.small_set.specs.Sets.{IsNext, contains}
use Rattle.world.specs.WindowMaps.{joined_columns}
use Rattle.world.specs.declared.settings.Columns.{Columns}
use Rattle.extents.specs.Extents.{columns_of}

-- Lines that aren't in the set have no columns, nor have those before the next one of it that is looked at.
pub record ClearedBefore (lines : List ℕ) (next : Option ℕ) (extents : List (Option Columns)) : Type 0 where
  pub others : (v : ℕ) → contains lines v ≡ false → columns_of extents v ≡ None
  pub rest : MatchOption next ((v : ℕ) → columns_of extents v ≡ None) (λ y. (contains lines y ≡ true) × ((v : ℕ) → v < y → columns_of extents v ≡ None))

-- how many lines are left at most
abbrev pub lines-left : Option ℕ → ℕ
lines-left next = option_map_or (λ y. 1024 - y) next 0

-- the line that is looked at
pub looked-at : (lines : List ℕ) (extents : List (Option Columns)) (next : Option ℕ) (y : ℕ) → next ≡ Some y → ClearedBefore lines next extents → ClearedBefore lines (Some y) extents
looked-at lines extents next y is = grind arith

-- and where there is no more
pub none-next : (lines : List ℕ) (extents : List (Option Columns)) (next : Option ℕ) → next ≡ None → ClearedBefore lines next extents → (v : ℕ) → columns_of extents v ≡ None
none-next lines extents next is h v = (subst (λ (o : Option ℕ). ClearedBefore lines o extents) is h).rest v

module _ (lines : List ℕ) (extents : List (Option Columns)) (y : ℕ) (inside : y < length extents) (h : ClearedBefore lines (Some y) extents) where
  pub cleared-more : (next : Option ℕ) → IsNext lines (y + 1) next → ClearedBefore lines next (set extents y None)
  cleared-more = grind (arith, cases_lt, cases_eq, get_or-set_same, get_or-set_other)

-- lines of which none has any
pub none-left : (n : ℕ) (extents : List (Option Columns)) → length extents ≡ n → ((y : ℕ) → columns_of extents y ≡ None) → extents ≡ replicate n None
none-left n extents long none =
    ext_get_or None extents (replicate n None) (long ∙ sym (length-replicate n None)) (λ k below. none k ∙ sym (get_or-replicate n k None None (omega (arith, below, long))))

-- ---- a rectangle

-- the lines from the top, before line n, were widened
pub record Widened (r : Rect) (n : ℕ) (old now : List (Option Columns)) : Type 0 where
  pub height : length now ≡ length old
  pub each : (v : ℕ) → columns_of now v
      ≡ (if (nat_le r.top v && nat_le v r.bottom) && nat_lt v n then joined_columns (columns_of old v) r.left r.right else columns_of old v)

not-yet : {A : Type 0} (top bottom n v : ℕ) (a b : A) → n ≤ top → (if (nat_le top v && nat_le v bottom) && nat_lt v n then a else b) ≡ b
not-yet top bottom n v a b h = grind (arith, nat_tests)

pub widened-none : (r : Rect) (old : List (Option Columns)) → Widened r r.top old old
widened-none r old = record { height = refl; each = λ v. sym (not-yet r.top r.bottom r.top v (joined_columns (columns_of old v) r.left r.right) (columns_of old v) (omega arith)) }

pub widened-more : (r : Rect) (n : ℕ) (old now : List (Option Columns)) → Widened r n old now → r.top ≤ n → n ≤ r.bottom → n < length now
    → Widened r (n + 1) old (slice_set now n (joined_columns (columns_of now n) r.left r.right))
widened-more r n old now h from to below = search (rules, length-set, cases_eq, nat_tests, get_or-set_same, and_from, le-leb, lt-ltb, get_or-set_other, cases_lt)

-- all of it was
pub widened-all : (r : Rect) (n : ℕ) (old now : List (Option Columns)) → Widened r n old now → r.bottom < n → (v : ℕ) → columns_of now v
    ≡ (if nat_le r.top v && nat_le v r.bottom then joined_columns (columns_of old v) r.left r.right else columns_of old v)
widened-all r n old now h past v = grind (arith, nat_tests)

-- a line that others were added to has some
pub has_joined : (o : Option Columns) (first last : ℕ) → is_some (joined_columns o first last) ≡ true
has_joined None first last = refl
has_joined (Some r) first last = refl
