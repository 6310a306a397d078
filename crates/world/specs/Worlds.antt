-- The world that calls change: the windows, the panels, the colour pairs, and the virtual screen, which is what the
-- next doupdate shows.
-- X/Open Curses Issue 7: wnoutrefresh and doupdate ("virtual screen"), init_pair; NetBSD panel(3): update_panels.
use Rattle.std.specs.Prelude.{◌-◌}
use Rattle.world.specs.Names.{ℕ, false, Option, Some, None, blank, Place, origin, blank_picture, Shown, Pairs, shown, first_pairs, VirtualScreen}
use Rattle.world.specs.WindowMaps.{Backing, own_grid, Window, Windows, no_windows, with_window}
use Rattle.world.specs.PanelOrder.{Panels, first_panels, standard_screen, found_from_top, cursor_of_topmost}
use Rattle.world.specs.declared.settings.Settings.{Settings}

pub record World : Type 0 where
  pub windows : Windows
  pub panels : Panels
  pub pairs : Pairs
  pub virtual : VirtualScreen

-- the picture of the world: what the search from the top finds at (y, x), in the colours that its pair has
abbrev pub picture : World → ℕ → ℕ → Shown
picture world y x = shown world.pairs (found_from_top world.windows.window world.panels y x)

-- the topmost's cursor
abbrev pub topmost_cursor : World → Place
topmost_cursor world = cursor_of_topmost world.windows.window world.panels

-- ---- a new screen

-- the settings of a new window
abbrev pub first_settings : ℕ → Settings
first_settings lines = record { cursor = origin; region = (0, lines - 1); attrs = record { 0 = 0 }; background = blank; pair = 0; scrolling = false; clear = false }

abbrev pub blank_grid : Backing
blank_grid = own_grid (λ y x. blank)

-- a window or pad as it is at first
abbrev pub new_window : ℕ → ℕ → Option Place → Backing → Window
new_window lines columns place backing = record { lines = lines; columns = columns; place = place; settings = first_settings lines; touched = λ y. None; backing = backing }

-- the standard screen alone, under a blank virtual screen
abbrev pub first_world : ℕ → ℕ → World
first_world lines columns = record {
  windows = record { lines = lines; columns = columns; window = with_window no_windows standard_screen (Some (new_window lines columns (Some origin) blank_grid)) };
  panels = first_panels;
  pairs = first_pairs;
  virtual = record { picture = blank_picture lines columns; cursor = origin; clear = false };
}
