-- No panel is visible twice, and the one that the search finds holds the place.
use Rattle.std.specs.Prelude.{◌≡◌, ◌≢◌, ◌∷◌}
use Rattle.picture.specs.{ℕ, suc, Bool, true, Option, Some, List, [], refl, arith, AllPairs, find, AllByRecursion, recursion_from_All, AreOnce, IsOut, Panels, holds, owner, standard_screen}
use Rattle.picture.specs.{window_or_standard, WindowMap}

-- ---- no panel is visible twice

out-from : (p : ℕ) (xs : List ℕ) → AllByRecursion (λ q. p ≢ q) xs → IsOut p xs
out-from p [] h = tt
out-from p (x ∷ xs) h = (h.0, out-from p xs h.1)

pub once-from : (xs : List ℕ) → AllPairs (λ p q. p ≢ q) xs → AreOnce xs
once-from [] h = tt
once-from (x ∷ xs) h = (
  out-from x xs (recursion_from_All (λ q. x ≢ q) xs (λ k d below. h 0 (suc k) d (omega arith) (let b = below in omega (arith, b)))),
  once-from xs (λ i j d before below. h (suc i) (suc j) d (let a = before in omega (arith, a)) (let b = below in omega (arith, b))),
)

-- ---- the first that does

first-does : (f : ℕ → Bool) (x : ℕ) (xs : List ℕ) (p : ℕ) (b : Bool) → f x ≡ b → find f (x ∷ xs) ≡ Some p → (find f xs ≡ Some p → f p ≡ true) → f p ≡ true
first-does f x xs p b on is rest = grind arith

found-does : (f : ℕ → Bool) (xs : List ℕ) (p : ℕ) → find f xs ≡ Some p → f p ≡ true
found-does f [] p is = cc
found-does f (x ∷ xs) p is = first-does f x xs p (f x) refl is (found-does f xs p)

pub owner-held : (window : WindowMap) (panels : Panels) (y x : ℕ) (o : Option ℕ) → owner window panels y x ≡ o → holds window standard_screen y x ≡ true
    → holds window (window_or_standard panels o) y x ≡ true
owner-held window panels y x o is standard = grind (arith, found-does)
