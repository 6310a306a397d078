-- Windows and pads: what they are, which cells they share, and what it is to write in one.
-- X/Open Curses Issue 7: newwin, subwin and derwin (a derived window shares the cells of its parent), newpad, touchwin.
-- Lines and columns count from 0; a place is named by its line y and its column x.
use Rattle.std.specs.Prelude.{◌≡◌, ◌+◌, ◌-◌, ◌<◌, if◌then◌else◌, ◌==◌, ◌&&◌, ◌||◌, ◌∷◌}
use Rattle.world.specs.Names.{ℕ, zero, suc, min, max, Bool, false, nat_lt, nat_le, Option, Some, None, is_some, is_none, unwrap_or, option_and_then, IsSome, IsSomeAnd, List, [], list_any}
use Rattle.world.specs.Names.{option_map, option_map_or, Glyph, blank, Place, MOST_WINDOWS}
use Rattle.world.specs.declared.settings.Columns.{Columns}
use Rattle.world.specs.declared.settings.Settings.{Settings}

-- Where the cells of a window are: in a grid of its own, or, as `part_of parent line column`, in the window of that
-- number, from that line and column of it on.
pub data Backing : Type 0 where
  own_grid : (ℕ → ℕ → Glyph) → Backing
  part_of : ℕ → ℕ → ℕ → Backing

-- A window, or a pad, which has no place on the screen. Of each line the columns from the first to the last touched one
-- are kept.
pub record Window : Type 0 where
  pub lines : ℕ
  pub columns : ℕ
  pub place : Option Place
  pub settings : Settings
  pub touched : ℕ → Option Columns
  pub backing : Backing

-- the windows and pads by number
abbrev pub WindowMap : Type 0
WindowMap = ℕ → Option Window

-- a screen of this size and its windows
pub record Windows : Type 0 where
  pub lines : ℕ
  pub columns : ℕ
  pub window : WindowMap

-- ---- shared cells

-- a place of the grid that a window has of its own
pub record GridPlace : Type 0 where
  pub grid : ℕ
  pub line : ℕ
  pub column : ℕ

-- the most windows and pads that there can be, the standard screen among them
unfoldable pub window_limit : ℕ
window_limit = MOST_WINDOWS + 1

-- where the place (y, x) of window w leads: to its own grid, or further on
abbrev pub through_backing : (ℕ → ℕ → ℕ → Option GridPlace) → ℕ → ℕ → ℕ → Backing → Option GridPlace
through_backing further w y x (own_grid cells) = Some (record { grid = w; line = y; column = x })
through_backing further w y x (part_of parent line column) = further parent (y + line) (x + column)

-- where it leads through less than n parents
abbrev pub own_within : ℕ → WindowMap → ℕ → ℕ → ℕ → Option GridPlace
own_within zero window w y x = None
own_within (suc n) window w y x = option_and_then (λ a. through_backing (own_within n window) w y x a.backing) (window w)

-- where the place (y, x) of window w leads, through the chain of its parents
abbrev pub own : WindowMap → ℕ → ℕ → ℕ → Option GridPlace
own window w y x = own_within window_limit window w y x

-- the place of a grid some lines and columns on
abbrev pub onward : ℕ → ℕ → GridPlace → GridPlace
onward y x p = record { grid = p.grid; line = p.line + y; column = p.column + x }

-- the cell of a grid
abbrev pub cell_of : Backing → ℕ → ℕ → Glyph
cell_of (own_grid cells) y x = cells y x
cell_of (part_of parent line column) y x = blank

abbrev pub cell_in_grid : WindowMap → Option GridPlace → Glyph
cell_in_grid window None = blank
cell_in_grid window (Some p) = option_map_or (λ a. cell_of a.backing p.line p.column) (window p.grid) blank

-- the cell that window w shows at (y, x)
abbrev pub cell_at : WindowMap → ℕ → ℕ → ℕ → Glyph
cell_at window w y x = cell_in_grid window (own window w y x)

-- window w is there and has the place (y, x)
abbrev pub HasPlace : WindowMap → ℕ → ℕ → ℕ → Type 0
HasPlace window w y x = IsSomeAnd (window w) (λ a. (y < a.lines) × (x < a.columns))

-- ---- ancestors

-- the number of the parent that a backing names
abbrev pub parent_number : Backing → Option ℕ
parent_number (own_grid cells) = None
parent_number (part_of parent line column) = Some parent

-- the parent of window u
abbrev pub parent_of : WindowMap → ℕ → Option ℕ
parent_of window u = option_and_then (λ a. parent_number a.backing) (window u)

-- the first n ancestors of window u: its parent, the parent's parent, and so on
abbrev pub ancestors_within : ℕ → WindowMap → ℕ → List ℕ
ancestors_within zero window u = []
ancestors_within (suc n) window u = option_map_or (λ parent. parent ∷ ancestors_within n window parent) (parent_of window u) []

-- all of them
abbrev pub ancestors : WindowMap → ℕ → List ℕ
ancestors window u = ancestors_within window_limit window u

-- window u derives from window w, at any depth
abbrev pub derives : WindowMap → ℕ → ℕ → Bool
derives window w u = list_any (λ v. v == w) (ancestors window u)

-- ---- writing

-- cells for some places of a window
abbrev pub Drawing : Type 0
Drawing = ℕ → ℕ → Option Glyph

-- no cell
abbrev pub no_cells : Drawing
no_cells y x = None

-- the part of a drawing that is in the window
abbrev pub within : Window → Drawing → Drawing
within a f y x = if nat_lt y a.lines && nat_lt x a.columns then f y x else None

-- What the drawing gives a grid, where the window's (0, 0) leads to line p.line and column p.column of it: the cell at
-- line y, column x takes the drawing's at (y - p.line, x - p.column), the place that leads there (`own`).
abbrev pub grid_drawing : GridPlace → Drawing → Drawing
grid_drawing p f y x = if nat_le p.line y && nat_le p.column x then f (y - p.line) (x - p.column) else None

-- a grid of which each cell takes what the drawing gives it, if anything, and else keeps its own
abbrev pub laid_over : Drawing → Backing → Backing
laid_over f (own_grid cells) = own_grid (λ y x. unwrap_or (f y x) (cells y x))
laid_over f (part_of parent line column) = part_of parent line column

-- the least columns that hold these, if there are any, and those from a first to a last
abbrev pub joined_columns : Option Columns → ℕ → ℕ → Option Columns
joined_columns None first last = Some (record { first = first; last = last })
joined_columns (Some r) first last = Some (record { first = min r.first first; last = max r.last last })

-- the touched columns after each one below n that passes the test was touched
abbrev pub touched_below : ℕ → (ℕ → Bool) → Option Columns → Option Columns
touched_below zero test r = r
touched_below (suc n) test r = if test n then joined_columns (touched_below n test r) n n else touched_below n test r

-- the touched columns of a window's lines after a drawing was written through it
abbrev pub touched_by : Drawing → Window → ℕ → Option Columns
touched_by f a y = touched_below a.columns (λ x. is_some (within a f y x)) (a.touched y)

-- Window u, which is b, after the drawing f was written through window w, which is a and whose (0, 0) leads to p: the
-- grid there takes the cells of f that are in a, and w is touched at their places.
abbrev pub after_drawing : ℕ → Window → GridPlace → Drawing → ℕ → Window → Window
after_drawing w a p f u b = record b {
  backing = (if u == p.grid then laid_over (grid_drawing p (within a f)) b.backing else b.backing);
  touched = (if u == w then touched_by f b else b.touched);
}

abbrev pub put_from : WindowMap → ℕ → Option Window → Option GridPlace → Drawing → WindowMap
put_from window w (Some a) (Some p) f u = option_map (after_drawing w a p f u) (window u)
put_from window w _ _ f u = window u

-- The drawing f was written through window w. `IsWrite` says what that is, without the lines and columns of grids.
abbrev pub put_windows : WindowMap → ℕ → Drawing → WindowMap
put_windows window w f = put_from window w (window w) (own window w 0 0) f

abbrev pub put : Windows → ℕ → Drawing → Windows
put windows w f = record windows { window = put_windows windows.window w f }

-- a window but for what a write may change of it: what is touched, and the cells of its own grid
abbrev pub unwritten : Window → Window
unwritten a = record a { touched = λ y. None; backing = laid_over (λ y x. Some blank) a.backing }

-- What a write through window w does, whatever windows share its cells, in a sound world: each place of any window that
-- leads where a written place of w leads shows its cell, and each other place the cell that it showed. The written
-- places are touched in w, and in no other window. Nothing else changes.
pub record IsWrite (old new : WindowMap) (w : ℕ) (f : Drawing) : Type 0 where
  pub written : (y x : ℕ) (glyph : Glyph) (u v z : ℕ) → HasPlace old w y x → f y x ≡ Some glyph → own old u v z ≡ own old w y x → cell_at new u v z ≡ glyph
  pub kept : (u v z : ℕ) → ((y x : ℕ) → HasPlace old w y x → IsSome (f y x) → own old w y x ≡ own old u v z → ⊥) → cell_at new u v z ≡ cell_at old u v z
  pub leads : (u y x : ℕ) → own new u y x ≡ own old u y x
  pub touched : (u : ℕ) → option_map (λ a. a.touched) (new u) ≡ option_map (λ a. if u == w then touched_by f a else a.touched) (old u)
  pub rest : (u : ℕ) → option_map unwritten (new u) ≡ option_map unwritten (old u)

-- one drawing laid over another
abbrev pub over : Drawing → Drawing → Drawing
over g f y x = if is_some (g y x) then g y x else f y x

-- ---- windows by number

-- some number below n passes the test
abbrev pub any_below : ℕ → (ℕ → Bool) → Bool
any_below zero test = false
any_below (suc n) test = test n || any_below n test

-- one window changed
abbrev pub with_change : WindowMap → ℕ → (Window → Window) → WindowMap
with_change window w change u = if u == w then option_map change (window u) else window u

-- another window, or none, under a number
abbrev pub with_window : WindowMap → ℕ → Option Window → WindowMap
with_window window w a u = if u == w then a else window u

abbrev pub no_windows : WindowMap
no_windows w = None

abbrev pub is_missing : WindowMap → ℕ → Bool
is_missing window w = is_none (window w)

-- what becomes of a window that is there
abbrev pub if_there : Windows → ℕ → (Window → Windows) → Windows
if_there windows w change = option_map_or change (windows.window w) windows

-- what is drawn in a window that is there
abbrev pub drawing_if_there : Windows → ℕ → (Window → Drawing) → Drawing
drawing_if_there windows w drawing = option_map_or drawing (windows.window w) no_cells
