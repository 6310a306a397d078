-- The calls that make, move and delete windows and pads: each with its tests and its effect.
-- X/Open Curses Issue 7: newwin, derwin, subwin, newpad, subpad, delwin, mvwin, mvderwin. That a size of 0 reaches to
-- the edge of the parent too, the limits of size and of number, and the order of the tests are Curspan's own choice.
use Rattle.std.specs.Prelude.{◌+◌, ◌-◌, if◌then◌else◌, ◌==◌, ◌&&◌, ◌||◌, ◌∷◌}
use Rattle.world.specs.Names.{ℕ, zero, suc, Bool, true, false, not, nat_lt, nat_le, Option, Some, None, is_none, is_some, unwrap_or, List, [], option_and_then, option_map, option_map_or, Place}
use Rattle.world.specs.Names.{is_no_size, first_of, LARGEST_PAD, LARGEST_SCREEN, Refusal, OffScreen, OutsideParent, HasDerived, InPanel, IsPad, NotPad, NotDerived, BadSize, StandardScreen, TooMany}
use Rattle.world.specs.WindowMaps.{Backing, own_grid, part_of, Window, WindowMap, Windows, any_below, parent_number, window_limit}
use Rattle.world.specs.PanelOrder.{standard_screen, place_of}
use Rattle.world.specs.Worlds.{new_window, blank_grid}
use Rattle.world.specs.Effects.{Change, makes, deletes, moves, shifts, after_change}
use Rattle.world.specs.calls.Rules.{missing_window}
use Rattle.world.specs.declared.written_calls.Making.{Making}
use Rattle.world.specs.declared.written_calls.Making.TheVariants.{Newwin, Subwin, Derwin, Newpad, Subpad, Delwin, Mvwin, Mvderwin}

-- ---- what a window is

abbrev pub is_pad : WindowMap → ℕ → Bool
is_pad window w = option_map_or (λ a. is_none a.place) (window w) false

abbrev pub is_no_pad : WindowMap → ℕ → Bool
is_no_pad window w = option_map_or (λ a. is_some a.place) (window w) false

abbrev pub is_own : Backing → Bool
is_own (own_grid cells) = true
is_own (part_of parent line column) = false

abbrev pub has_no_parent : WindowMap → ℕ → Bool
has_no_parent window w = option_map_or (λ a. is_own a.backing) (window w) false

abbrev pub is_part_of : ℕ → Backing → Bool
is_part_of w (own_grid cells) = false
is_part_of w (part_of parent line column) = parent == w

-- some window derives from window w
abbrev pub has_derived : WindowMap → ℕ → Bool
has_derived window w = any_below window_limit (λ u. option_map_or (λ a. is_part_of w a.backing) (window u) false)

-- ---- sizes

-- how many lines or columns from a place on are meant: 0 reaches to the edge
abbrev pub extent : ℕ → ℕ → ℕ → ℕ
extent n all at = if n == 0 then all - at else n

-- they are at least one, and end before the edge
abbrev pub is_inside : ℕ → ℕ → ℕ → Bool
is_inside n all at = nat_lt 0 (extent n all at) && nat_le (at + extent n all at) all

-- ---- numbers

-- the first free number of the n from k on
abbrev pub free_among : ℕ → ℕ → WindowMap → Option ℕ
free_among zero k window = None
free_among (suc n) k window = if is_none (window k) then Some k else free_among n (k + 1) window

-- the number of the next window: the least free one from 1 on
abbrev pub new_number : WindowMap → Option ℕ
new_number window = free_among (window_limit - 1) 1 window

abbrev pub is_full : WindowMap → Bool
is_full window = is_none (new_number window)

-- the number that it has
abbrev pub next_window : Windows → ℕ
next_window windows = unwrap_or (new_number windows.window) standard_screen

-- ---- a new screen

abbrev pub new_refusal : ℕ → ℕ → Option Refusal
new_refusal lines columns = first_of ((is_no_size LARGEST_SCREEN lines || is_no_size LARGEST_SCREEN columns, BadSize) ∷ [])

-- ---- windows and pads

-- a window of the screen, from a place on
abbrev pub window_on_screen : Windows → ℕ → ℕ → ℕ → ℕ → Window
window_on_screen windows nlines ncols y x =
    new_window (extent nlines windows.lines y) (extent ncols windows.columns x) (Some (y, x)) blank_grid

-- a place some lines and columns on; a pad has none
abbrev pub place_from : Option Place → ℕ → ℕ → Option Place
place_from place y x = option_map (λ p. (p.0 + y, p.1 + x)) place

-- the part of a window, which has the number w, from the offset (y, x) on
abbrev pub derived_window : ℕ → ℕ → ℕ → ℕ → ℕ → Window → Window
derived_window w nlines ncols y x parent =
    new_window (extent nlines parent.lines y) (extent ncols parent.columns x) (place_from parent.place y x) (part_of w y x)

-- of the window w
abbrev pub derived_from : Windows → ℕ → ℕ → ℕ → ℕ → ℕ → Option Window
derived_from windows w nlines ncols y x = option_map (derived_window w nlines ncols y x) (windows.window w)

-- how many lines, and columns, a place of the screen lies from a window's
abbrev pub lines_from : WindowMap → ℕ → ℕ → ℕ
lines_from window w y = y - (place_of window w).0

abbrev pub columns_from : WindowMap → ℕ → ℕ → ℕ
columns_from window w x = x - (place_of window w).1

-- ---- tests

-- that part isn't inside window w
abbrev pub is_outside : WindowMap → ℕ → ℕ → ℕ → ℕ → ℕ → Bool
is_outside window w nlines ncols y x =
    option_map_or (λ parent. not (is_inside nlines parent.lines y && is_inside ncols parent.columns x)) (window w) false

-- the tests of every call that derives
abbrev pub part_tests : Windows → ℕ → ℕ → ℕ → ℕ → ℕ → List (Bool × Refusal)
part_tests windows w nlines ncols y x =
    (is_outside windows.window w nlines ncols y x, OutsideParent)
    ∷ (is_full windows.window, TooMany)
    ∷ []

-- left of window w on the screen, or above it
abbrev pub is_before : WindowMap → ℕ → ℕ → ℕ → Bool
is_before window w y x = nat_lt y (place_of window w).0 || nat_lt x (place_of window w).1

abbrev pub is_off_screen : Windows → ℕ → ℕ → ℕ → Bool
is_off_screen windows w y x =
    option_map_or (λ a. not (nat_le (y + a.lines) windows.lines && nat_le (x + a.columns) windows.columns)) (windows.window w) false

-- the window that a backing names as parent
abbrev pub parent_in : WindowMap → Backing → Option Window
parent_in window backing = option_and_then window (parent_number backing)

abbrev pub reaches_past : ℕ → ℕ → Window → Window → Bool
reaches_past y x a parent = not (nat_le (y + a.lines) parent.lines && nat_le (x + a.columns) parent.columns)

abbrev pub leaves_parent : WindowMap → ℕ → ℕ → ℕ → Bool
leaves_parent window w y x = option_map_or (λ a. option_map_or (reaches_past y x a) (parent_in window a.backing) false) (window w) false

-- ---- calls

-- The tests may ask of each window whether it is in a panel: then only its panel moves it, and it isn't deleted.
pub record MakingRule : Type 0 where
  pub tests : (ℕ → Bool) → List (Bool × Refusal)
  pub effect : Change

abbrev pub making_rule : Windows → Making → MakingRule
making_rule windows (Newwin nlines ncols y x) = record {
  tests = λ in_panel.
      (not (is_inside nlines windows.lines y && is_inside ncols windows.columns x), OffScreen)
      ∷ (is_full windows.window, TooMany)
      ∷ [];
  effect = makes (next_window windows) (Some (window_on_screen windows nlines ncols y x));
}
making_rule windows (Subwin win nlines ncols y x) = record {
  tests = λ in_panel.
      missing_window windows win.0
      ∷ (is_pad windows.window win.0, IsPad)
      ∷ (is_before windows.window win.0 y x, OutsideParent)
      ∷ part_tests windows win.0 nlines ncols (lines_from windows.window win.0 y) (columns_from windows.window win.0 x);
  effect = makes (next_window windows) (derived_from windows win.0 nlines ncols (lines_from windows.window win.0 y)
      (columns_from windows.window win.0 x));
}
making_rule windows (Derwin win nlines ncols y x) = record {
  tests = λ in_panel.
      missing_window windows win.0
      ∷ (is_pad windows.window win.0, IsPad)
      ∷ part_tests windows win.0 nlines ncols y x;
  effect = makes (next_window windows) (derived_from windows win.0 nlines ncols y x);
}
making_rule windows (Newpad nlines ncols) = record {
  tests = λ in_panel.
      (is_no_size LARGEST_PAD nlines || is_no_size LARGEST_PAD ncols, BadSize)
      ∷ (is_full windows.window, TooMany)
      ∷ [];
  effect = makes (next_window windows) (Some (new_window nlines ncols None blank_grid));
}
making_rule windows (Subpad pad nlines ncols y x) = record {
  tests = λ in_panel.
      missing_window windows pad.0
      ∷ (is_no_pad windows.window pad.0, NotPad)
      ∷ part_tests windows pad.0 nlines ncols y x;
  effect = makes (next_window windows) (derived_from windows pad.0 nlines ncols y x);
}
making_rule windows (Delwin win) = record {
  tests = λ in_panel.
      missing_window windows win.0
      ∷ (win.0 == standard_screen, StandardScreen)
      ∷ (in_panel win.0, InPanel)
      ∷ (has_derived windows.window win.0, HasDerived)
      ∷ [];
  effect = deletes win.0;
}
making_rule windows (Mvwin win y x) = record {
  tests = λ in_panel.
      missing_window windows win.0
      ∷ (win.0 == standard_screen, StandardScreen)
      ∷ (is_pad windows.window win.0, IsPad)
      ∷ (in_panel win.0, InPanel)
      ∷ (is_off_screen windows win.0 y x, OffScreen)
      ∷ [];
  effect = moves win.0 (y, x);
}
making_rule windows (Mvderwin win y x) = record {
  tests = λ in_panel.
      missing_window windows win.0
      ∷ (has_no_parent windows.window win.0, NotDerived)
      ∷ (leaves_parent windows.window win.0 y x, OutsideParent)
      ∷ [];
  effect = shifts win.0 (y, x);
}

abbrev pub making_tests : Windows → (ℕ → Bool) → Making → List (Bool × Refusal)
making_tests windows in_panel making = (making_rule windows making).tests in_panel

abbrev pub making_change : Windows → Making → Change
making_change windows making = (making_rule windows making).effect

abbrev pub making_refusal : Windows → (ℕ → Bool) → Making → Option Refusal
making_refusal windows in_panel making = first_of (making_tests windows in_panel making)

abbrev pub after_making : Windows → Making → Windows
after_making windows making = after_change windows (making_change windows making)
