-- Laws of windows that share cells.
use Rattle.std.specs.Prelude.{◌≡◌, ◌+◌, ◌<◌, if◌then◌else◌, ◌==◌, ◌&&◌, ◌||◌}
use Rattle.world.specs.{ℕ, zero, suc, Bool, false, nat_lt, Option, Some, None, is_some, IsSome, ap, arith, refl, sym, ◌∙◌, option_and_then, option_map, eqb-true, nat_tests, Glyph, Backing, own_grid}
use Rattle.world.specs.{part_of, Window, WindowMap, GridPlace, Drawing, through_backing, own_within, own, cell_at, within, grid_drawing, laid_over, joined_columns, touched_below, touched_by}
use Rattle.world.specs.{after_drawing, put_from, put_windows, HasPlace, window_limit, onward, over}
use mathlib.Core.Path.{fun_ext}
use Rattle.world.specs.declared.settings.Columns.{Columns}

-- a window's places lead to the places of one rectangle of a grid: own is own of (0, 0), moved
own_within-onward : (n : ℕ) (window : WindowMap) (w y x a b : ℕ) → own_within n window w (y + a) (x + b) ≡ option_map (onward a b) (own_within n window w y x)
own_within-onward zero window w y x a b = refl
own_within-onward (suc n) window w y x a b = grind (arith, (own_within-onward n window))

pub own-onward : (window : WindowMap) (w y x : ℕ) → own window w y x ≡ option_map (onward y x) (own window w 0 0)
own-onward window w y x = grind (arith, (own_within-onward window_limit window w 0 0 y x))

-- a write changes no chain
own_within-put_from : (n : ℕ) (window : WindowMap) (w : ℕ) (a : Option Window) (spot : Option GridPlace) (d : Drawing) (u y x : ℕ)
    → own_within n (put_from window w a spot d) u y x ≡ own_within n window u y x
own_within-put_from zero window w a spot d u y x = refl
own_within-put_from (suc n) window w a spot d u y x = grind (arith, (own_within-put_from n window w a spot d))

pub own-put : (window : WindowMap) (w : ℕ) (d : Drawing) (u y x : ℕ) → own (put_windows window w d) u y x ≡ own window u y x
own-put window w d u y x = grind (arith, own_within-put_from)

abbrev widened : Option Columns → ℕ → Option Columns
widened r x = joined_columns r x x

touched-widened : (n : ℕ) (test : ℕ → Bool) (r : Option Columns) (x : ℕ) → touched_below n test (widened r x) ≡ widened (touched_below n test r) x
touched-widened zero test r x = refl
touched-widened (suc n) test r x = grind (arith, (touched-widened n test r x))

pub touched-touched : (n : ℕ) (s t : ℕ → Bool) (r : Option Columns) → touched_below n s (touched_below n t r) ≡ touched_below n (λ x. s x || t x) r
touched-touched zero s t r = refl
touched-touched (suc n) s t r = grind (arith, touched-widened, (touched-touched n s t r))

-- a second drawing over a first one, at one place
laid-laid : (spot : GridPlace) (a : Window) (f g : Drawing) (s : Backing) → laid_over (grid_drawing spot (within a g)) (laid_over (grid_drawing spot (within a f)) s)
    ≡ laid_over (grid_drawing spot (within a (over g f))) s
laid-laid spot a f g s = grind arith

some-point : (t : Bool) (g f : Option Glyph) → (is_some (if t then g else None) || is_some (if t then f else None)) ≡ is_some (if t then (if is_some g then g else f) else None)
some-point t g f = grind arith

touched_by-twice : (b : Window) (f g : Drawing) (y : ℕ) → touched_below b.columns (λ x. is_some (within b g y x)) (touched_by f b y) ≡ touched_by (over g f) b y
touched_by-twice b f g y =
    touched-touched b.columns (λ x. is_some (within b g y x)) (λ x. is_some (within b f y x)) (b.touched y)
    ∙ ap (λ (test : ℕ → Bool). touched_below b.columns test (b.touched y)) (fun_ext (λ x. some-point (nat_lt y b.lines && nat_lt x b.columns) (g y x) (f y x)))

drawn-by : (p q : Bool) (b : Window) (f2 g2 h2 : Drawing) (f g : Drawing) → laid_over g2 (laid_over f2 b.backing) ≡ laid_over h2 b.backing →
    record b {
      backing = (if p then laid_over g2 (if p then laid_over f2 b.backing else b.backing) else (if p then laid_over f2 b.backing else b.backing));
      touched = (if q then (λ y. touched_below b.columns (λ x. is_some (within b g y x)) ((if q then touched_by f b else b.touched) y)) else (if q then touched_by f b else b.touched));
    } ≡ record b { backing = (if p then laid_over h2 b.backing else b.backing); touched = (if q then touched_by (over g f) b else b.touched) }
drawn-by p q b f2 g2 h2 f g e = grind (arith, touched_by-twice)

twice-at : (w : ℕ) (a : Window) (spot : GridPlace) (f g : Drawing) (u : ℕ) (o : Option Window)
    → option_map (after_drawing w (after_drawing w a spot f w a) spot g u) (option_map (after_drawing w a spot f u) o)
    ≡ option_map (after_drawing w a spot (over g f) u) o
twice-at w a spot f g u None = refl
twice-at w a spot f g u (Some b) = ap Some (drawn-by (u == spot.grid) (u == w) b (grid_drawing spot (within a f)) (grid_drawing spot (within a g)) (grid_drawing spot (within a (over g f))) f g
    (laid-laid spot a f g b.backing))

-- two writes through one window are one
pub put-put : (window : WindowMap) (w : ℕ) (f g : Drawing) → put_windows (put_windows window w f) w g ≡ put_windows window w (over g f)
put-put window w f g = grind (arith, own-put, twice-at)

-- a place that the drawing leaves out keeps its cell
pub cell_at-kept : (window : WindowMap) (w : ℕ) (a : Window) (spot : GridPlace) (f : Drawing) (u y x : ℕ) (s : GridPlace) → window w ≡ Some a → own window w 0 0 ≡ Some spot
    → own window u y x ≡ Some s →
    grid_drawing spot (within a f) s.line s.column ≡ None → cell_at (put_windows window w f) u y x ≡ cell_at window u y x
cell_at-kept window w a spot f u y x s e leads_w leads_u h = grind (arith, own-put)

-- a drawing of no cell changes nothing
touched-nothing : (n : ℕ) (test : ℕ → Bool) (r : Option Columns) → ((x : ℕ) → test x ≡ false) → touched_below n test r ≡ r
touched-nothing zero test r h = refl
touched-nothing (suc n) test r h = grind (arith, (touched-nothing n test r h))

nothing-at : (w : ℕ) (a : Window) (spot : GridPlace) (f : Drawing) (u : ℕ) (o : Option Window) → ((y x : ℕ) → f y x ≡ None) → option_map (after_drawing w a spot f u) o ≡ o
nothing-at w a spot f u o h = grind (arith, touched-nothing)

pub put-nothing : (window : WindowMap) (w : ℕ) (f : Drawing) → ((y x : ℕ) → f y x ≡ None) → put_windows window w f ≡ window
put-nothing window w f h = grind (arith, nothing-at)

-- a chain ends in a window with a grid of its own
abbrev pub Ends : WindowMap → GridPlace → Type 0
Ends window s = (g : Window) × (cells : ℕ → ℕ → Glyph) × (window s.grid ≡ Some g) × (g.backing ≡ own_grid cells)

ends-leads : (window : WindowMap) (further : ℕ → ℕ → ℕ → Option GridPlace) → ((w y x : ℕ) (s : GridPlace) → further w y x ≡ Some s → Ends window s) → (w y x : ℕ) (a : Window) (src : Backing)
    → window w ≡ Some a → a.backing ≡ src → (s : GridPlace) → through_backing further w y x src ≡ Some s → Ends window s
ends-leads window further h w y x a (own_grid cells) e is s found = let same : w ≡ s.grid = cc in (a, cells, ap window (sym same) ∙ e, is)
ends-leads window further h w y x a (part_of parent line column) e is s found = grind arith

ends-at : (window : WindowMap) (further : ℕ → ℕ → ℕ → Option GridPlace) → ((w y x : ℕ) (s : GridPlace) → further w y x ≡ Some s → Ends window s) → (w y x : ℕ) (o : Option Window) → window w ≡ o
    → (s : GridPlace) → option_and_then (λ c. through_backing further w y x c.backing) o ≡ Some s → Ends window s
ends-at window further h w y x None e s found = cc
ends-at window further h w y x (Some a) e s found = ends-leads window further h w y x a a.backing e refl s found

pub own-ends : (n : ℕ) (window : WindowMap) (w y x : ℕ) (s : GridPlace) → own_within n window w y x ≡ Some s → Ends window s
own-ends zero window w y x s h = cc
own-ends (suc n) window w y x s h = ends-at _ _ (own-ends n window) w y x _ refl s h

-- each place of the drawing is taken by every window that shows it
pub put-takes : (window : WindowMap) (w : ℕ) (a : Window) (spot : GridPlace) (f : Drawing) (y x : ℕ) (c : Glyph) (u v z : ℕ) →
    window w ≡ Some a → own window w 0 0 ≡ Some spot → y < a.lines → x < a.columns → f y x ≡ Some c → own window u v z ≡ own window w y x → cell_at (put_windows window w f) u v z ≡ c
put-takes window w a spot f y x c u v z e leads_w in_lines in_cols is same = grind (arith, own-onward, own-ends, own-put, nat_tests)

-- ---- a place that no written place of the window shares keeps its cell

module _ (window : WindowMap) (w : ℕ) (f : Drawing) (u v z : ℕ)
    (apart : (y x : ℕ) → HasPlace window w y x → IsSome (f y x) → own window w y x ≡ own window u v z → ⊥) where
  pub put-keeps : cell_at (put_windows window w f) u v z ≡ cell_at window u v z
  put-keeps = grind (arith, own-put, nat_tests, own-onward, eqb-true)

-- the places of a window with a grid of its own lead to the grid's
pub own-own_grid : (window : WindowMap) (w : ℕ) (a : Window) (cells : ℕ → ℕ → Glyph) (y x : ℕ) → window w ≡ Some a → a.backing ≡ own_grid cells
    → own window w y x ≡ Some (record { grid = w; line = y; column = x })
unfolding window_limit
own-own_grid window w a cells y x e is = grind arith
