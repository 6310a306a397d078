-- A place that a rectangle holds lies between its sides, and one that a window's rectangle holds is a place of the window.
use Rattle.std.specs.Prelude.{◌≡◌, ◌-◌, ◌<◌, ◌≤◌}
use Rattle.picture.specs.{ℕ, true, false, Option, arith, IsSomeAnd, is_some, option_map_or, and_parts, leb-true, ltb-true, origin, Rect, holds, holds_place, place_of, screen_place, is_no_pad}
use Rattle.picture.specs.{HasPlace, Window, WindowMap, frame_holds}

pub record IsBetween (r : Rect) (y x : ℕ) : Type 0 where
  pub top : r.top ≤ y
  pub bottom : y ≤ r.bottom
  pub left : r.left ≤ x
  pub right : x ≤ r.right

pub held-between : (r : Rect) (y x : ℕ) → frame_holds r y x ≡ true → IsBetween r y x
held-between r y x h = grind (arith, and_parts, leb-true)

held_place : (o : Option Window) (y x : ℕ) → option_map_or (holds_place y x) o false ≡ true
    → IsSomeAnd o (λ a. (y - (option_map_or screen_place o origin).0 < a.lines) × (x - (option_map_or screen_place o origin).1 < a.columns))
held_place o y x h = grind (arith, and_parts, leb-true, ltb-true)

pub held-place : (window : WindowMap) (w y x : ℕ) → holds window w y x ≡ true → HasPlace window w (y - (place_of window w).0) (x - (place_of window w).1)
held-place window w y x h = held_place (window w) y x h

held_before : (o : Option Window) (y x : ℕ) → option_map_or (holds_place y x) o false ≡ true
    → ((option_map_or screen_place o origin).0 ≤ y) × ((option_map_or screen_place o origin).1 ≤ x)
held_before o y x h = grind (arith, and_parts, leb-true)

-- the window begins no later than a place that it holds
pub held-before : (window : WindowMap) (w y x : ℕ) → holds window w y x ≡ true → ((place_of window w).0 ≤ y) × ((place_of window w).1 ≤ x)
held-before window w y x h = held_before (window w) y x h

-- it is no pad
no_pad : (o : Option Window) (y x : ℕ) → option_map_or (holds_place y x) o false ≡ true → option_map_or (λ a. is_some a.place) o false ≡ true
no_pad o y x h = grind arith

pub held-no-pad : (window : WindowMap) (w y x : ℕ) → holds window w y x ≡ true → is_no_pad window w ≡ true
held-no-pad window w y x h = no_pad (window w) y x h
