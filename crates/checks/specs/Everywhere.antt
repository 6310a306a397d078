-- The calls that every screen refuses, whatever its size, and whatever was called on it before.
use Rattle.std.specs.Prelude.{◌≡◌, ◌+◌, ◌⊎◌, ◌==◌, ◌&&◌, ◌||◌, ◌∷◌, if◌then◌else◌}
use Rattle.checks.specs.Names.{ℕ, not, nat_le, nat_lt, Bool, true, List, [], LARGEST_PAD, LARGEST_SCREEN, MOST_PANELS, MOST_WINDOWS, Refusal, standard_screen, IsSound, World, tests_of, is_inside}
use Rattle.checks.specs.Names.{Call}

-- one of the tests has this refusal
abbrev pub IsAmong : Refusal → List (Bool × Refusal) → Type 0
IsAmong why [] = ⊥
IsAmong why (test ∷ tests) = (test.1 ≡ why) ⊎ IsAmong why tests

-- a test holds that has this refusal, or comes before one that has
abbrev pub HoldsUpTo : Refusal → List (Bool × Refusal) → Type 0
HoldsUpTo why [] = ⊥
HoldsUpTo why (test ∷ tests) = ((test.0 ≡ true) × IsAmong why (test ∷ tests)) ⊎ HoldsUpTo why tests

-- Every screen refuses the call: for this reason, or by a test that comes before.
abbrev pub IsRefusedEverywhere : Call → Refusal → Type 0
IsRefusedEverywhere call why = (world : World) → IsSound world → HoldsUpTo why (tests_of world call)

-- ---- what no screen has

-- how many lines and columns a window has at most: window 0 those of the greatest screen, and another those of the greatest pad
abbrev pub most_of : ℕ → ℕ
most_of w = if w == standard_screen then LARGEST_SCREEN else LARGEST_PAD

-- no such window has that place
abbrev pub is_past : ℕ → ℕ → ℕ → Bool
is_past w y x = nat_le (most_of w) y || nat_le (most_of w) x

-- no such window has so many lines from a line on
abbrev pub are_past : ℕ → ℕ → ℕ → Bool
are_past w y n = not (nat_lt y (most_of w) && nat_le (y + n) (most_of w))

-- of so many lines and columns none has such a part
abbrev pub is_too_great : ℕ → ℕ → ℕ → ℕ → ℕ → Bool
is_too_great most nlines ncols y x = not (is_inside nlines most y && is_inside ncols most x)

-- no screen has such a window or pad
abbrev pub is_no_window : ℕ → Bool
is_no_window w = nat_lt MOST_WINDOWS w

-- no screen has such a panel
abbrev pub is_no_panel : ℕ → Bool
is_no_panel p = p == 0 || nat_lt MOST_PANELS p
