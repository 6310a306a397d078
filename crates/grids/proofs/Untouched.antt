-- Lines of which none is touched, and lines of which some are changed together.
use Rattle.std.specs.Prelude.{◌≡◌, ◌+◌, ◌-◌, ◌≤◌, ◌∷◌, ◌++◌, ◌&&◌, if◌then◌else◌}
use borrow.Rule.Slice.PartMut.{put_mid, same_len_mid}
use Rattle.std.proofs.Common.{length-append}
use Rattle.std.proofs.lemmas.List.{get_or-append_right, get_or_append_left}
use Rattle.grids.specs.{inl, inr, ℕ, nat_le, nat_lt, arith, nat_tests, cases_lt, length, take, get_or, get_or-take, get_or-drop, get_or_past, length-drop, length-take-le, suc, false, Option, is_some, List, [], refl, list_any, Columns, AreUntouched}

-- a look at each finds none
pub untouched_any : (lines : List (Option Columns)) → AreUntouched lines → list_any is_some lines ≡ false
untouched_any [] none = refl
untouched_any (columns ∷ lines) none = rw (none 0) (untouched_any lines (λ y. none (suc y)))

-- a part of a list is another one of its length
part-changed : {X : Type 0} (xs ys : List X) (a k y : ℕ) (none : X) → a + k ≤ length xs → length ys ≡ k
    → get_or (put_mid a k xs ys) y none ≡ (if nat_le a y && nat_lt y (a + k) then get_or ys (y - a) none else get_or xs y none)
part-changed xs ys a k y none within long =
    let before = length-take-le a xs (omega arith) in
    elim (cases_lt y a) [
      | inl left ↦ grind (arith, nat_tests, get_or_append_left, get_or-take)
      | inr from ↦ elim (cases_lt y (a + k)) [
        | inl inside ↦ grind (arith, nat_tests, get_or-append_right, get_or_append_left)
        | inr past ↦ grind (arith, nat_tests, get_or-append_right, get_or-drop)
      ]
    ]

pub part-of_whole : {X : Type 0} (xs ys rest : List X) (n a k y : ℕ) (none : X) → n ≡ length xs → a + k ≤ length xs → length ys ≡ k
    → get_or (take n (put_mid a k xs ys ++ rest)) y none ≡ (if nat_le a y && nat_lt y (a + k) then get_or ys (y - a) none else get_or xs y none)
part-of_whole xs ys rest n a k y none all within long =
    let whole = same_len_mid a k xs ys (grind (arith, length-drop, length-take-le)) in
    elim (cases_lt y n) [
      | inl inside ↦ grind (arith, get_or-take, get_or_append_left, part-changed xs ys a k y none within long)
      | inr past ↦ grind (arith, nat_tests, get_or_past, length-take-le, length-append)
    ]
