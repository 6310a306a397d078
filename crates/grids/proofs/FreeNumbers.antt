-- The search for the number of the next window, step by step.
use Rattle.std.specs.Prelude.{◌≡◌, ◌+◌, ◌-◌, ◌<◌, ◌≤◌, if◌then◌else◌}
use Rattle.grids.specs.{ℕ, suc, true, false, Option, Some, None, is_none, List, length, ap, arith, refl, ◌∙◌, option_map, get_or_past, MOST_WINDOWS, Window, WindowMap, window_limit, free_among, Kept}
use Rattle.grids.specs.{window_of, slot_at, window_map}
use Rattle.grids.proofs.Chain.{limit-is}

taken-step : (n k : ℕ) (window : WindowMap) (a : Option Window) → is_none a ≡ false → (if is_none a then Some k else free_among n (k + 1) window) ≡ free_among n (k + 1) window
taken-step n k window None h = cc
taken-step n k window (Some a) h = refl

found : (n k : ℕ) (window : WindowMap) (a : Option Window) → is_none a ≡ true → (if is_none a then Some k else free_among n (k + 1) window) ≡ Some k
found n k window None h = refl
found n k window (Some a) h = cc

is_none-window : (o : Option Kept) → is_none (option_map window_of o) ≡ is_none o
is_none-window None = refl
is_none-window (Some k) = refl

module _ (slots : List (Option Kept)) where
  -- from the number k on
  abbrev pub search_from : ℕ → Option ℕ
  search_from k = free_among (window_limit - k) k (window_map slots)

  left : (k : ℕ) → k < MOST_WINDOWS + 1 → window_limit - k ≡ suc (window_limit - (k + 1))
  left k lt = omega (arith, limit-is)

  pub search-more : (k : ℕ) → k < MOST_WINDOWS + 1 → is_none (slot_at slots k) ≡ false → search_from k ≡ search_from (k + 1)
  search-more k lt h =
      ap (λ m. free_among m k (window_map slots)) (left k lt)
      ∙ taken-step (window_limit - (k + 1)) k (window_map slots) (window_map slots k) (is_none-window (slot_at slots k) ∙ h)

  pub search-here : (k : ℕ) → k < MOST_WINDOWS + 1 → is_none (slot_at slots k) ≡ true → search_from k ≡ Some k
  search-here k lt h =
      ap (λ m. free_among m k (window_map slots)) (left k lt)
      ∙ found (window_limit - (k + 1)) k (window_map slots) (window_map slots k) (is_none-window (slot_at slots k) ∙ h)

  -- the number after the last slot
  pub search-past : length slots < MOST_WINDOWS + 1 → search_from (length slots) ≡ Some (length slots)
  search-past lt = search-here (length slots) lt (ap (λ (o : Option Kept). is_none o) (get_or_past slots (length slots) None (omega arith)))

  pub search-end : (k : ℕ) → MOST_WINDOWS + 1 ≤ k → search_from k ≡ None
  search-end k le = ap (λ m. free_among m k (window_map slots)) (let e : window_limit - k ≡ 0 = omega (arith, limit-is, le) in e)
