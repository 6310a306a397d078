-- What steps do to the damage, one after another; and what is damaged of a rectangle.
use Rattle.std.specs.Prelude.{◌≡◌, ◌<◌, ◌≤◌, ◌||◌, if◌then◌else◌}
use Rattle.picture.specs.{ℕ, Bool, true, false, Option, Some, None, is_some, List, length, inl, inr, refl, arith, get_or-set_other, get_or-set_same, rules, MatchOption, slice_set, ⊤}
use Rattle.picture.specs.{option_map, and_parts, and_from, or_left, or_right, or_cases, cases_eq, cases_lt, leb-true, le-leb, nat_tests, length-set, Rect, Columns, any_below, joined_columns}
use Rattle.picture.specs.{columns_of, has_columns, is_among, AreEnds, Damages, IsFrameWithin, frame_has_line, frame_holds}
use Rattle.world.proofs.Below.{any_below-some}

-- ---- one step after another

-- nothing is damaged where there is no place
pub damages-none : (columns : ℕ) (places : ℕ → ℕ → Bool) (old : List (Option Columns)) → ((y x : ℕ) → y < length old → x < columns → places y x ≡ false) → Damages columns places old old
damages-none columns places old none = grind arith

pub damages-then : (columns : ℕ) (p q : ℕ → ℕ → Bool) (old mid new : List (Option Columns)) → Damages columns p old mid → Damages columns q mid new
    → Damages columns (λ y x. p y x || q y x) old new
damages-then columns p q old mid new first second = grind (arith, or_cases, or_right, or_left)

-- the same places of the screen
pub damages-as : (columns : ℕ) (p q : ℕ → ℕ → Bool) (old new : List (Option Columns)) → Damages columns p old new
    → ((y x : ℕ) → y < length old → x < columns → q y x ≡ true → p y x ≡ true) → ((y x : ℕ) → x < columns → p y x ≡ true → q y x ≡ true) → Damages columns q old new
damages-as columns p q old new h covered few = grind arith

-- a damaged line was damaged before, or has one of the places
line-of : (columns : ℕ) (before : Option Columns) (test : ℕ → Bool) (o : Option Columns) → AreEnds columns before test o → is_some o ≡ true → (is_some before || any_below columns test) ≡ true
line-of columns before test None h some = cc
line-of columns before test (Some r) h some = elim h.0 [
  | inl was ↦ or_left (is_some before) (any_below columns test) (was-some before r.first was)
  | inr here ↦ or_right (is_some before) (any_below columns test) (any_below-some columns test r.first here.0 here.1)
] where
  was-some : (o : Option Columns) (x : ℕ) → option_map (λ c. c.first) o ≡ Some x → is_some o ≡ true
  was-some None x is = cc
  was-some (Some c) x is = refl

pub damages-line : (columns : ℕ) (places : ℕ → ℕ → Bool) (old new : List (Option Columns)) → Damages columns places old new → (y : ℕ) → has_columns new y ≡ true
    → (has_columns old y || any_below columns (places y)) ≡ true
damages-line columns places old new h y is = line-of columns (columns_of old y) (places y) (columns_of new y) (h.few y) is

-- ---- a rectangle

-- all of it was widened
pub damages-rectangle : (columns : ℕ) (r : Rect) (old new : List (Option Columns)) → length new ≡ length old
    → ((v : ℕ) → columns_of new v ≡ (if frame_has_line r v then joined_columns (columns_of old v) r.left r.right else columns_of old v)) → r.left ≤ r.right → r.right < columns
    → Damages columns (frame_holds r) old new
damages-rectangle columns r old new height each ordered inside = search (rules, and_parts, leb-true, and_from, le-leb, cases_lt, nat_tests)

pub part-right : (lines columns : ℕ) (part : Option Rect) → MatchOption part ⊤ (IsFrameWithin lines columns) → MatchOption part ⊤ (λ r. r.right < columns)
part-right lines columns part h = grind arith

-- a line was widened
pub damages-widened : (columns y first last : ℕ) (old : List (Option Columns)) → y < length old → first ≤ last → last < columns
    → Damages columns (frame_holds (record { top = y; left = first; bottom = y; right = last })) old (slice_set old y (joined_columns (columns_of old y) first last))
damages-widened columns y first last old below ordered inside =
    damages-rectangle columns (record { top = y; left = first; bottom = y; right = last }) old (slice_set old y (joined_columns (columns_of old y) first last))
    (length-set old y (joined_columns (columns_of old y) first last))
    (λ v. grind (arith, cases_eq, nat_tests, get_or-set_same, get_or-set_other)) ordered inside

-- ---- columns that may be added to those of a line

-- none were
pub ends-same : (columns : ℕ) (o : Option Columns) (test : ℕ → Bool) → AreEnds columns o test o
ends-same columns o test = grind arith

-- some were, whose ends pass the test
ends-joined : (columns : ℕ) (before o : Option Columns) (test : ℕ → Bool) (r : Columns) → AreEnds columns before test o → r.first ≤ r.last → r.last < columns → test r.first ≡ true
    → test r.last ≡ true → AreEnds columns before test (joined_columns o r.first r.last)
ends-joined columns before None test r h ordered inside first last = search (rules, cases_lt)
ends-joined columns before (Some c) test r h ordered inside first last = search (rules, cases_lt)

-- those of a line were
pub ends-more : (columns : ℕ) (added old now : List (Option Columns)) (y : ℕ) (r : Columns) → ((v : ℕ) → AreEnds columns (columns_of old v) (is_among added v) (columns_of now v))
    → columns_of added y ≡ Some r → y < length now → r.first ≤ r.last → r.last < columns → (v : ℕ)
    → AreEnds columns (columns_of old v) (is_among added v) (columns_of (slice_set now y (joined_columns (columns_of now y) r.first r.last)) v)
ends-more columns added old now y r h some below ordered inside v =
    let first : is_among added y r.first ≡ true = grind (arith, nat_tests, some) in
    let last : is_among added y r.last ≡ true = grind (arith, nat_tests, some) in
    let here = ends-joined columns (columns_of old y) (columns_of now y) (is_among added y) r (h y) ordered inside first last in
    grind (arith, cases_eq, get_or-set_same, get_or-set_other, here)
