-- A visible panel is there.
use Rattle.std.specs.Prelude.{◌≡◌, ◌==◌, ◌∷◌}
use Rattle.picture.specs.{ℕ, Bool, true, false, Option, None, List, [], inl, inr, refl, sym, subst, ◌∙◌, All, IsSome, list_any, eqb-true, or_cases, All-head, All-tail}

visible-there : (window : ℕ → Option ℕ) (p : ℕ) (visible : List ℕ) → All (λ q. IsSome (window q)) visible → list_any (λ q. q == p) visible ≡ true → IsSome (window p)
visible-there window p [] h is = cc
visible-there window p (q ∷ visible) h is = elim (or_cases (q == p) (list_any (λ r. r == p) visible) is) [
  | inl same ↦ subst (λ r. IsSome (window r)) (eqb-true q p same) (All-head (λ r. IsSome (window r)) q visible h)
  | inr rest ↦ visible-there window p visible (All-tail (λ r. IsSome (window r)) q visible h) rest
]

-- so one that isn't there isn't visible
pub absent-hidden : (window : ℕ → Option ℕ) (p : ℕ) (visible : List ℕ) → All (λ q. IsSome (window q)) visible → window p ≡ None → false ≡ list_any (λ q. q == p) visible
absent-hidden window p visible h none = by_test (list_any (λ q. q == p) visible) refl where
  by_test : (b : Bool) → list_any (λ q. q == p) visible ≡ b → false ≡ list_any (λ q. q == p) visible
  by_test true is = let some : false ≡ true = subst IsSome none (visible-there window p visible h is) in some ∙ sym is
  by_test false is = sym is
