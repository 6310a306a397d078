-- A window is at a place of the screen.
use Rattle.std.specs.Prelude.{◌≡◌, ◌+◌, ◌<◌, ◌≤◌}
use Rattle.picture.specs.{ℕ, Option, Some, None, refl, ap, ◌∙◌, arith, option_and_then, option_map, Place, LARGEST_SCREEN, Window, Windows, AreColumnsWithin, AreSoundWindows, place_on_screen}
use Rattle.picture.specs.{window_size}

-- the window is there, at this place of the screen
pub record IsPlacedAt (windows : Windows) (w : ℕ) (place : Place) (lines : ℕ) : Type 0 where
  pub window : Window
  pub there : windows.window w ≡ Some window
  pub height : window.lines ≡ lines
  pub at : window.place ≡ Some place
  pub down : place.0 + window.lines ≤ windows.lines
  pub right : place.1 + window.columns ≤ windows.columns
  pub few_lines : windows.lines ≤ LARGEST_SCREEN
  pub few_columns : windows.columns ≤ LARGEST_SCREEN
  pub has_column : 0 < window.columns
  pub touched : (y : ℕ) → AreColumnsWithin window.columns (window.touched y)

placed_at-from : (windows : Windows) (w : ℕ) (place : Place) (lines : ℕ) (o : Option Window) → windows.window w ≡ o → AreSoundWindows windows
    → option_and_then (λ (a : Window). a.place) o ≡ Some place → (size : Option (ℕ × ℕ)) → option_map (λ (a : Window). (a.lines, a.columns)) o ≡ size
    → (columns : ℕ) → size ≡ Some (lines, columns) → IsPlacedAt windows w place lines
placed_at-from windows w place lines o e sound place_is size size_is columns known = grind arith

pub placed_at : (windows : Windows) (w : ℕ) (place : Place) (lines columns : ℕ) → AreSoundWindows windows → place_on_screen windows.window w ≡ Some place
    → window_size windows.window w ≡ Some (lines, columns)
    → IsPlacedAt windows w place lines
placed_at windows w place lines columns sound place_is size_is = placed_at-from windows w place lines (windows.window w) refl sound place_is (window_size windows.window w) refl columns size_is

-- a window that has a place on the screen is there
placed-from : (windows : Windows) (w : ℕ) (place : Place) (o : Option Window) → windows.window w ≡ o → AreSoundWindows windows → option_and_then (λ (a : Window). a.place) o ≡ Some place
    → (lines : ℕ) × IsPlacedAt windows w place lines
placed-from windows w place None e sound is = cc
placed-from windows w place (Some a) e sound is = (
  a.lines,
  placed_at windows w place a.lines a.columns sound (ap (λ (o : Option Window). option_and_then (λ (b : Window). b.place) o) e ∙ is)
      (ap (λ (o : Option Window). option_map (λ (b : Window). (b.lines, b.columns)) o) e),
)

pub placed : (windows : Windows) (w : ℕ) (place : Place) → AreSoundWindows windows → place_on_screen windows.window w ≡ Some place → (lines : ℕ) × IsPlacedAt windows w place lines
placed windows w place sound is = placed-from windows w place (windows.window w) refl sound is
