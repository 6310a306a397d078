-- The calls that make the virtual screen and show it, and the one that sets how cells of a pair are shown: each with
-- its tests and its effect.
-- X/Open Curses Issue 7: wnoutrefresh, pnoutrefresh, doupdate, init_pair. NetBSD panel(3): update_panels. The order of
-- the tests is Curspan's own choice.
use Rattle.std.specs.Prelude.{◌+◌, ◌-◌, if◌then◌else◌, ◌==◌, ◌&&◌, ◌||◌, ◌∷◌}
use Rattle.world.specs.Names.{ℕ, Bool, true, false, not, nat_lt, nat_le, Option, Some, None, List, [], option_map_or, first_of, LAST_COLOUR, Refusal, BadPair, BadRectangle, IsPad, NotPad, OffScreen}
use Rattle.world.specs.Names.{OutsideWindow}
use Rattle.world.specs.WindowMaps.{Drawing, WindowMap, Windows}
use Rattle.world.specs.Rows.{is_among}
use Rattle.world.specs.PanelOrder.{cell_on_screen, cursor_on_screen, holds, place_of}
use Rattle.world.specs.Worlds.{World}
use Rattle.world.specs.Effects.{Effect, refreshes, composes, shows, colours}
use Rattle.world.specs.calls.Copying.{copywin_drawing}
use Rattle.world.specs.calls.Making.{is_pad}
use Rattle.world.specs.calls.Rules.{Rule, missing_window}
use Rattle.world.specs.calls.Writing.{is_no_pair, lacks_place}
use Rattle.world.specs.declared.written_calls.Refresh.{Refresh}
use Rattle.world.specs.declared.written_calls.Refresh.TheVariants.{Noutrefresh, Pnoutrefresh, UpdatePanels, Doupdate, InitPair}
use Rattle.world.specs.declared.settings.Columns.{Columns}

-- ---- what is touched of a window

abbrev pub among : Option Columns → ℕ → Bool
among None x = false
among (Some r) x = nat_le r.first x && nat_le x r.last

-- on line y of window w, column x isn't before the first touched one, nor after the last
abbrev pub is_touched : WindowMap → ℕ → ℕ → ℕ → Bool
is_touched window w y x = option_map_or (λ a. among (a.touched y) x) (window w) false

-- the touched cells of the window, at their places on the screen
abbrev pub touched_cells : WindowMap → ℕ → Drawing
touched_cells window w y x =
    if holds window w y x && is_touched window w (y - (place_of window w).0) (x - (place_of window w).1) then Some (cell_on_screen window w y x) else None

-- ---- tests

-- the place isn't on the screen
abbrev pub is_beyond : Windows → ℕ → ℕ → Bool
is_beyond windows y x = not (nat_lt y windows.lines && nat_lt x windows.columns)

abbrev pub is_no_colour : ℕ → Bool
is_no_colour colour = not (nat_le colour LAST_COLOUR)

-- pair 0 keeps the default colours
abbrev pub colour_tests : ℕ → ℕ → ℕ → List (Bool × Refusal)
colour_tests pair foreground background = (pair == 0 || (is_no_pair pair || (is_no_colour foreground || is_no_colour background)), BadPair) ∷ []

abbrev pub pnoutrefresh_tests : Windows → ℕ → ℕ → ℕ → ℕ → ℕ → ℕ → ℕ → List (Bool × Refusal)
pnoutrefresh_tests windows pad pminrow pmincol sminrow smincol smaxrow smaxcol =
    missing_window windows pad
    ∷ (not (is_pad windows.window pad), NotPad)
    ∷ (nat_lt smaxrow sminrow || nat_lt smaxcol smincol, BadRectangle)
    ∷ (lacks_place windows.window pad (pminrow + (smaxrow - sminrow)) (pmincol + (smaxcol - smincol)), OutsideWindow)
    ∷ (is_beyond windows smaxrow smaxcol, OffScreen)
    ∷ []

abbrev pub noutrefresh_tests : Windows → ℕ → List (Bool × Refusal)
noutrefresh_tests windows w = missing_window windows w ∷ (is_pad windows.window w, IsPad) ∷ []

-- ---- calls

-- pnoutrefresh: a rectangle of the pad, touched or not, for one of the screen, both ends inclusive; the wanted cursor
-- stays
abbrev pub refresh_rule : World → Refresh → Rule Effect
refresh_rule world (Noutrefresh win) = record {
  tests = noutrefresh_tests world.windows win.0;
  effect = refreshes win.0 (λ y. true) (touched_cells world.windows.window win.0) (cursor_on_screen world.windows.window win.0);
}
refresh_rule world (Pnoutrefresh pad pminrow pmincol sminrow smincol smaxrow smaxcol) = record {
  tests = pnoutrefresh_tests world.windows pad.0 pminrow pmincol sminrow smincol smaxrow smaxcol;
  effect = refreshes pad.0 (is_among pminrow (smaxrow - sminrow + 1))
      (copywin_drawing world.windows.window pad.0 pminrow pmincol sminrow smincol smaxrow smaxcol false) world.virtual.cursor;
}
refresh_rule world UpdatePanels = record { tests = []; effect = composes }
refresh_rule world Doupdate = record { tests = []; effect = shows }
refresh_rule world (InitPair pair foreground background) = record {
  tests = colour_tests pair foreground background;
  effect = colours pair foreground background;
}

abbrev pub refresh_tests : World → Refresh → List (Bool × Refusal)
refresh_tests world refresh = (refresh_rule world refresh).tests

abbrev pub refresh_effect : World → Refresh → Effect
refresh_effect world refresh = (refresh_rule world refresh).effect

abbrev pub refresh_refusal : World → Refresh → Option Refusal
refresh_refusal world refresh = first_of (refresh_tests world refresh)
