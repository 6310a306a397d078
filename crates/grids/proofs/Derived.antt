-- A test of each slot over the list is the one over the numbers.
use Rattle.std.specs.Prelude.{◌≡◌, ◌+◌, ◌≤◌, ◌||◌, ◌∷◌}
use Rattle.grids.specs.{slice_index_or, ℕ, zero, suc, Bool, true, false, Option, None, List, [], length, ap, arith, refl, sym, ◌∙◌, list_any, MOST_WINDOWS, any_below, window_limit, has_derived, Kept}
use Rattle.grids.specs.{window_map, names_parent}
use Rattle.grids.proofs.Chain.{limit-is}

or_swap : (a b c : Bool) → (a || (b || c)) ≡ (b || (a || c))
or_swap true true c = refl
or_swap true false c = refl
or_swap false b c = refl

any_below-first : (n : ℕ) (test : ℕ → Bool) → any_below (suc n) test ≡ (test 0 || any_below n (λ u. test (suc u)))
any_below-first zero test = refl
any_below-first (suc n) test = rw (any_below-first n test) (or_swap (test (suc n)) (test 0) (any_below n (λ u. test (suc u))))

pub any_below-list : {A : Type 0} (test : Option A → Bool) → test None ≡ false → (xs : List (Option A)) (n : ℕ) → length xs ≤ n → any_below n (λ u. test (slice_index_or xs u None)) ≡ list_any test xs
any_below-list test none [] zero h = refl
any_below-list test none [] (suc n) h = ap (λ b. b || any_below n (λ u. test None)) none ∙ any_below-list test none [] n (omega arith)
any_below-list test none (o ∷ xs) zero h = absurd (omega arith)
any_below-list test none (o ∷ xs) (suc n) h =
    any_below-first n (λ u. test (slice_index_or (o ∷ xs) u None)) ∙ ap (λ b. test o || b) (any_below-list test none xs n (omega arith))

pub has_derived-list : (slots : List (Option Kept)) (w : ℕ) → length slots ≤ MOST_WINDOWS + 1 → list_any (names_parent w) slots ≡ has_derived (window_map slots) w
has_derived-list slots w few = sym (any_below-list (names_parent w) refl slots window_limit (omega (arith, limit-is)))
