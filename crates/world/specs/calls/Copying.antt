-- The calls that copy cells from window to window, and those on what is touched of a window: each with its tests and
-- its effect.
-- X/Open Curses Issue 7: overlay, overwrite, copywin, touchwin, untouchwin, touchline, wtouchln, wsyncup, wsyncdown,
-- is_linetouched, is_wintouched. The order of the tests is Curspan's own choice, and that 0 lines still want their line
-- to be there.
-- A copy is one write, whose drawing has the cells of the source as they are before it: also where source and
-- destination share cells.
use Rattle.std.specs.Prelude.{◌+◌, ◌-◌, if◌then◌else◌, ◌==◌, ◌&&◌, ◌||◌, ◌∷◌}
use Rattle.world.specs.Names.{ℕ, Bool, true, false, not, nat_lt, nat_le, Option, Some, None, is_some, List, [], list_any, option_map_or, first_of, Rect, Refusal, NoSuchWindow, OutsideWindow, IsPad}
use Rattle.world.specs.Names.{BadRectangle}
use Rattle.world.specs.WindowMaps.{Drawing, Window, WindowMap, Windows, ancestors, any_below, cell_at, derives, is_missing, touched_below}
use Rattle.world.specs.PanelOrder.{cell_on_screen, holds, place_of}
use Rattle.world.specs.Rows.{is_among, overlaid_cell}
use Rattle.world.specs.Sharing.{shows_part_of}
use Rattle.world.specs.Effects.{Change, asks, edits, draws, marks, after_change}
use Rattle.world.specs.calls.Making.{is_pad}
use Rattle.world.specs.calls.Rules.{Rule, missing_window}
use Rattle.world.specs.calls.Writing.{lacks_place}
use Rattle.world.specs.declared.written_calls.Copying.{Copying}
use Rattle.world.specs.declared.written_calls.Copying.TheVariants.{Overlay, Overwrite, Copywin, Touchwin, Untouchwin, Touchline, Touchln, Syncup, Syncdown, IsLinetouched, IsWintouched}
use Rattle.world.specs.declared.call.Reply.TheVariants.{Flag}
use Rattle.world.specs.declared.settings.Columns.{Columns}

-- ---- what is copied: all cells, or all but the spaces

-- From (dminrow, dmincol) of the destination on, so many lines and columns take the cells that window src has from
-- (sminrow, smincol) on.
abbrev pub rectangle_copied : WindowMap → ℕ → ℕ → ℕ → ℕ → ℕ → ℕ → ℕ → Bool → Drawing
rectangle_copied window src sminrow smincol dminrow dmincol lines columns overlay y x =
    if is_among dminrow lines y && is_among dmincol columns x then overlaid_cell overlay (cell_at window src (sminrow + (y - dminrow)) (smincol + (x - dmincol))) else None

-- copywin: the destination's rectangle from (dminrow, dmincol) to (dmaxrow, dmaxcol), both in it
abbrev pub copywin_drawing : WindowMap → ℕ → ℕ → ℕ → ℕ → ℕ → ℕ → ℕ → Bool → Drawing
copywin_drawing window src sminrow smincol dminrow dmincol dmaxrow dmaxcol overlay =
    rectangle_copied window src sminrow smincol dminrow dmincol (dmaxrow - dminrow + 1) (dmaxcol - dmincol + 1) overlay

-- overlay and overwrite: where the two windows overlap on the screen, the place (y, x) of window dst takes the cell that
-- window src has at the same place of the screen.
abbrev pub common_cells : WindowMap → ℕ → ℕ → Bool → Drawing
common_cells window src dst overlay y x =
    let line = (place_of window dst).0 + y in
    let column = (place_of window dst).1 + x in
    if holds window src line column then overlaid_cell overlay (cell_on_screen window src line column) else None

-- ---- what is touched

-- n lines from a first one on are touched from their first column to their last, or not touched
abbrev pub lines_marked : ℕ → ℕ → Bool → Window → Window
lines_marked first n flag a = record a {
  touched = λ y. if is_among first n y then (if flag then Some (record { first = 0; last = a.columns - 1 }) else None) else a.touched y;
}

-- all lines
abbrev pub all_marked : Bool → Window → Window
all_marked flag a = lines_marked 0 a.lines flag a

-- the columns of a line, as a rectangle
abbrev pub in_line : ℕ → Columns → Rect
in_line y r = record { top = y; left = r.first; bottom = y; right = r.last }

-- window u shows at (y, x) a cell that window w shows in the touched columns of one of its lines
abbrev pub shows_touched_of : WindowMap → ℕ → ℕ → ℕ → ℕ → Bool
shows_touched_of window w u y x =
    option_map_or (λ a. any_below a.lines (λ v. option_map_or (λ r. shows_part_of window w (in_line v r) u y x) (a.touched v) false)) (window w) false

-- the places of a window that pass a test are touched too
abbrev pub with_touches : (ℕ → ℕ → Bool) → Window → Window
with_touches test a = record a { touched = λ y. if nat_lt y a.lines then touched_below a.columns (test y) (a.touched y) else a.touched y }

-- a window is touched where it shows what is touched of an ancestor
abbrev pub shows_touched_of_ancestor : WindowMap → ℕ → ℕ → ℕ → Bool
shows_touched_of_ancestor window w y x = list_any (λ u. shows_touched_of window u w y x) (ancestors window w)

abbrev pub is_linetouched : WindowMap → ℕ → ℕ → Bool
is_linetouched window w y = option_map_or (λ a. is_some (a.touched y)) (window w) false

abbrev pub is_wintouched : WindowMap → ℕ → Bool
is_wintouched window w = option_map_or (λ a. any_below a.lines (λ y. is_some (a.touched y))) (window w) false

-- ---- tests

-- the first line isn't in the window, or the last isn't
abbrev pub lacks_lines : WindowMap → ℕ → ℕ → ℕ → Bool
lacks_lines window w first n = option_map_or (λ a. not (nat_lt first a.lines && nat_le (first + n) a.lines)) (window w) false

abbrev pub overlay_tests : Windows → ℕ → ℕ → List (Bool × Refusal)
overlay_tests windows src dst =
    (is_missing windows.window src || is_missing windows.window dst, NoSuchWindow)
    ∷ (is_pad windows.window src || is_pad windows.window dst, IsPad)
    ∷ []

-- the destination's rectangle has its last line or column before its first; or it isn't in its window, or the source's
-- isn't
abbrev pub copywin_tests : Windows → ℕ → ℕ → ℕ → ℕ → ℕ → ℕ → ℕ → ℕ → List (Bool × Refusal)
copywin_tests windows src dst sminrow smincol dminrow dmincol dmaxrow dmaxcol =
    (is_missing windows.window src || is_missing windows.window dst, NoSuchWindow)
    ∷ (nat_lt dmaxrow dminrow || nat_lt dmaxcol dmincol, BadRectangle)
    ∷ (lacks_place windows.window dst dmaxrow dmaxcol || lacks_place windows.window src (sminrow + (dmaxrow - dminrow)) (smincol + (dmaxcol - dmincol)), OutsideWindow)
    ∷ []

-- ---- calls

-- a copy is a drawing in its destination
abbrev pub copying_rule : Windows → Copying → Rule Change
copying_rule windows (Overlay src dst) = record {
  tests = overlay_tests windows src.0 dst.0;
  effect = edits (draws dst.0 (λ a. common_cells windows.window src.0 dst.0 true) None);
}
copying_rule windows (Overwrite src dst) = record {
  tests = overlay_tests windows src.0 dst.0;
  effect = edits (draws dst.0 (λ a. common_cells windows.window src.0 dst.0 false) None);
}
copying_rule windows (Copywin src dst sminrow smincol dminrow dmincol dmaxrow dmaxcol overlay) = record {
  tests = copywin_tests windows src.0 dst.0 sminrow smincol dminrow dmincol dmaxrow dmaxcol;
  effect = edits (draws dst.0 (λ a. copywin_drawing windows.window src.0 sminrow smincol dminrow dmincol dmaxrow dmaxcol overlay) None);
}
copying_rule windows (Touchwin win) = record { tests = missing_window windows win.0 ∷ []; effect = marks (λ u. u == win.0) (λ u. all_marked true) }
copying_rule windows (Untouchwin win) = record { tests = missing_window windows win.0 ∷ []; effect = marks (λ u. u == win.0) (λ u. all_marked false) }
copying_rule windows (Touchline win y n) = record {
  tests = missing_window windows win.0 ∷ (lacks_lines windows.window win.0 y n, OutsideWindow) ∷ [];
  effect = marks (λ u. u == win.0) (λ u. lines_marked y n true);
}
copying_rule windows (Touchln win y n flag) = record {
  tests = missing_window windows win.0 ∷ (lacks_lines windows.window win.0 y n, OutsideWindow) ∷ [];
  effect = marks (λ u. u == win.0) (λ u. lines_marked y n flag);
}
copying_rule windows (Syncup win) = record {
  tests = missing_window windows win.0 ∷ [];
  effect = marks (λ u. derives windows.window u win.0) (λ u. with_touches (shows_touched_of windows.window win.0 u));
}
copying_rule windows (Syncdown win) = record {
  tests = missing_window windows win.0 ∷ [];
  effect = marks (λ u. u == win.0) (λ u. with_touches (shows_touched_of_ancestor windows.window win.0));
}
copying_rule windows (IsLinetouched win y) = record {
  tests = missing_window windows win.0 ∷ (lacks_lines windows.window win.0 y 0, OutsideWindow) ∷ [];
  effect = asks (Flag (is_linetouched windows.window win.0 y));
}
copying_rule windows (IsWintouched win) = record {
  tests = missing_window windows win.0 ∷ [];
  effect = asks (Flag (is_wintouched windows.window win.0));
}

abbrev pub copying_tests : Windows → Copying → List (Bool × Refusal)
copying_tests windows copying = (copying_rule windows copying).tests

abbrev pub copying_change : Windows → Copying → Change
copying_change windows copying = (copying_rule windows copying).effect

abbrev pub copying_refusal : Windows → Copying → Option Refusal
copying_refusal windows copying = first_of (copying_tests windows copying)

abbrev pub after_copying : Windows → Copying → Windows
after_copying windows copying = after_change windows (copying_change windows copying)
