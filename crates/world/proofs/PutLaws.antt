-- Writes through one window: what it shows after one, and when several are one.
use Rattle.std.specs.Prelude.{◌≡◌, ◌+◌, ◌<◌, if◌then◌else◌, ◌==◌}
use Rattle.world.specs.{ℕ, Option, Some, None, is_some, unwrap_or, ap, arith, refl, ◌∙◌, option_map, ne_eqb, nat_tests, Glyph, Window, WindowMap, GridPlace, Drawing, own, cell_at, within}
use Rattle.world.specs.{grid_drawing, laid_over, touched_below, after_drawing, put_windows, onward, over}
use Rattle.world.proofs.WindowLaws.{own-onward, put-put, put-takes, cell_at-kept}

-- ---- only what is in the window is drawn

-- two drawings that agree in the window
abbrev pub AreSame : Window → Drawing → Drawing → Type 0
AreSame a f g = (y x : ℕ) → y < a.lines → x < a.columns → f y x ≡ g y x

within-same : (a : Window) (f g : Drawing) → AreSame a f g → within a f ≡ within a g
within-same a f g same = grind (arith, nat_tests)

-- ---- equal drawings are one write

drawn_as : (w : ℕ) (a : Window) (p : GridPlace) (u : ℕ) → Drawing → Window
drawn_as w a p u d = record a {
  backing = (if u == p.grid then laid_over (grid_drawing p d) a.backing else a.backing);
  touched = (if u == w then (λ y. touched_below a.columns (λ x. is_some (d y x)) (a.touched y)) else a.touched);
}

drawn-itself : (w : ℕ) (a : Window) (p : GridPlace) (f g : Drawing) (u : ℕ) → within a f ≡ within a g → after_drawing w a p f u a ≡ after_drawing w a p g u a
unfolding drawn_as
drawn-itself w a p f g u e = ap (drawn_as w a p u) e

pub put-same : (window : WindowMap) (w : ℕ) (a : Window) (f g : Drawing) → window w ≡ Some a → AreSame a f g → put_windows window w f ≡ put_windows window w g
put-same window w a f g there same = grind (arith, drawn-itself, ne_eqb, within-same)

-- a write and then another are one write of a drawing that has both
pub put-then : (window : WindowMap) (w : ℕ) (a : Window) (f g h : Drawing) → window w ≡ Some a → AreSame a (over g f) h
    → put_windows (put_windows window w f) w g ≡ put_windows window w h
put-then window w a f g h there same = rw put-put (put-same window w a (over g f) h there same)

-- ---- what the window shows after a write

drawn-nothing : (spot : GridPlace) (a : Window) (f : Drawing) (y x : ℕ) → f y x ≡ None → grid_drawing spot (within a f) (spot.line + y) (spot.column + x) ≡ None
drawn-nothing spot a f y x h = grind (arith, nat_tests)

shown-by : (window : WindowMap) (w : ℕ) (a : Window) (spot : GridPlace) (f : Drawing) (y x : ℕ) (o : Option Glyph) → window w ≡ Some a → own window w 0 0 ≡ Some spot
    → y < a.lines → x < a.columns → f y x ≡ o → cell_at (put_windows window w f) w y x ≡ unwrap_or o (cell_at window w y x)
shown-by window w a spot f y x (Some c) there leads below left is = put-takes window w a spot f y x c w y x there leads below left is refl
shown-by window w a spot f y x None there leads below left is =
    cell_at-kept window w a spot f w y x (onward y x spot) there leads (own-onward window w y x ∙ ap (option_map (onward y x)) leads) (drawn-nothing spot a f y x is)

pub shown-put : (window : WindowMap) (w : ℕ) (a : Window) (spot : GridPlace) (f : Drawing) (y x : ℕ) → window w ≡ Some a → own window w 0 0 ≡ Some spot
    → y < a.lines → x < a.columns → cell_at (put_windows window w f) w y x ≡ unwrap_or (f y x) (cell_at window w y x)
shown-put window w a spot f y x there leads below left = grind (arith, shown-by)
