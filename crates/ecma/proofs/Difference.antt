-- Pictures that differ in no place are one.
use Rattle.std.specs.Prelude.{◌≡◌, ◌∷◌, ◌↔◌}
use Rattle.ecma.specs.{ℕ, List, [], length, refl, sym, ◌∙◌, arith, AllByRecursion, cases_Bool, Shown, Picture, HasSize, line_difference, difference}
pub use Rattle.cell.specs.EqualityLaws.{same_rendition-equal, same_shown-equal, same_shown-self}

-- ---- lines

pub line_difference-self : (line : List Shown) → line_difference line line ≡ 0
line_difference-self [] = refl
line_difference-self (a ∷ line) = grind (arith, same_shown-self, (line_difference-self line))

pub line_difference-none : (old new : List Shown) → length old ≡ length new → line_difference old new ≡ 0 → old ≡ new
line_difference-none [] [] long none = refl
line_difference-none [] (b ∷ new) long none = grind arith
line_difference-none (a ∷ old) [] long none = grind arith
line_difference-none (a ∷ old) (b ∷ new) long none = grind (arith, cases_Bool, same_shown-equal, (line_difference-none old new))

-- ---- pictures

pub difference-self : (picture : Picture) → difference picture picture ≡ 0
difference-self [] = refl
difference-self (line ∷ picture) = omega (arith, line_difference-self line, difference-self picture)

lines-equal : (columns : ℕ) (old new : Picture) → length old ≡ length new → AllByRecursion (λ line. length line ≡ columns) old → AllByRecursion (λ line. length line ≡ columns) new
    → difference old new ≡ 0 → old ≡ new
lines-equal columns [] [] long wide wide_new none = refl
lines-equal columns [] (other ∷ new) long wide wide_new none = grind arith
lines-equal columns (line ∷ old) [] long wide wide_new none = grind arith
lines-equal columns (line ∷ old) (other ∷ new) long wide wide_new none =
    let first = line_difference-none line other (wide.0 ∙ sym wide_new.0) (omega arith) in
    let others = lines-equal columns old new (omega arith) wide.1 wide_new.1 (omega arith) in cc

pub difference-none : (lines columns : ℕ) (old new : Picture) → HasSize lines columns old → HasSize lines columns new → difference old new ≡ 0 → old ≡ new
difference-none lines columns old new h k none = lines-equal columns old new (h.height ∙ sym k.height) h.width k.width none

pub difference-zero : (lines columns : ℕ) (old new : Picture) → HasSize lines columns old → HasSize lines columns new → (difference old new ≡ 0) ↔ (old ≡ new)
difference-zero lines columns old new h k = (difference-none lines columns old new h k, λ same. rw same (difference-self new))
