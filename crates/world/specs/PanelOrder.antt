-- The panels, and the picture that they make of the windows.
-- NetBSD panel(3): panels are windows with an order of depth, above the standard screen; hidden ones are not in it.
use Rattle.std.specs.Prelude.{◌+◌, ◌-◌, ◌==◌, ◌&&◌, ◌∷◌}
use Rattle.world.specs.Names.{unwrap_or, ℕ, Bool, false, Option, Some, None, List, [], reverse, find, filter_map, last_or, option_map_or, Glyph, Place, origin, MOST_PANELS, STANDARD}
use Rattle.world.specs.WindowMaps.{Window, WindowMap, any_below, cell_at}
use Rattle.world.specs.Rows.{is_among}

-- the visible panels from bottom to top, and the window of each panel, which is hidden where the list lacks it
pub record Panels : Type 0 where
  pub visible : List ℕ
  pub window : ℕ → Option ℕ

-- those of a new screen: there are none
abbrev pub first_panels : Panels
first_panels = record { visible = []; window = λ p. None }

-- more than the number of any panel
unfoldable pub panel_limit : ℕ
panel_limit = MOST_PANELS + 1

-- window w is in a panel, visible or hidden
abbrev pub is_in_panel : Panels → ℕ → Bool
is_in_panel panels w = any_below panel_limit (λ p. option_map_or (λ u. u == w) (panels.window p) false)

-- the number of the standard screen
abbrev pub standard_screen : ℕ
standard_screen = STANDARD.0

-- the windows of the visible panels, the topmost first
abbrev pub windows_from_top : Panels → List ℕ
windows_from_top panels = filter_map panels.window (reverse panels.visible)

-- the windows that make up the picture
abbrev pub windows_of_picture : Panels → List ℕ
windows_of_picture panels = standard_screen ∷ windows_from_top panels

-- the window of a panel, or else the standard screen
abbrev pub window_or_standard : Panels → Option ℕ → ℕ
window_or_standard panels None = standard_screen
window_or_standard panels (Some p) = unwrap_or (panels.window p) standard_screen

-- ---- the picture

-- whether the window's rectangle holds the place (y, x) of the screen; a pad's holds none
abbrev pub holds_place : ℕ → ℕ → Window → Bool
holds_place y x a = option_map_or (λ p. is_among p.0 a.lines y && is_among p.1 a.columns x) a.place false

abbrev pub holds : WindowMap → ℕ → ℕ → ℕ → Bool
holds window w y x = option_map_or (holds_place y x) (window w) false

-- whether the rectangle of the panel's window does
abbrev pub panel_holds : WindowMap → Panels → ℕ → ℕ → ℕ → Bool
panel_holds window panels y x p = option_map_or (λ w. holds window w y x) (panels.window p) false

-- The search from the top: the first visible panel whose window's rectangle holds the place.
abbrev pub owner : WindowMap → Panels → ℕ → ℕ → Option ℕ
owner window panels y x = find (panel_holds window panels y x) (reverse panels.visible)

-- the window's place on the screen; a pad has none
abbrev pub screen_place : Window → Place
screen_place a = unwrap_or a.place origin

abbrev pub place_of : WindowMap → ℕ → Place
place_of window w = option_map_or screen_place (window w) origin

-- the cell that window w shows at the place (y, x) of the screen
abbrev pub cell_on_screen : WindowMap → ℕ → ℕ → ℕ → Glyph
cell_on_screen window w y x = cell_at window w (y - (place_of window w).0) (x - (place_of window w).1)

-- What a search from the top visible panel down to the standard screen finds at (y, x): the cell of the owner's window,
-- or of the standard screen where no panel owns the place.
abbrev pub found_from_top : WindowMap → Panels → ℕ → ℕ → Glyph
found_from_top window panels y x = cell_on_screen window (window_or_standard panels (owner window panels y x)) y x

-- ---- the cursor

-- the top visible panel
abbrev pub topmost : Panels → Option ℕ
topmost panels = last_or None panels.visible

-- where the window's cursor is on the screen
abbrev pub cursor_from : Place → Window → Place
cursor_from place a = (place.0 + a.settings.cursor.0, place.1 + a.settings.cursor.1)

abbrev pub cursor_on_screen : WindowMap → ℕ → Place
cursor_on_screen window w = option_map_or (cursor_from (place_of window w)) (window w) origin

-- the cursor of the top visible panel's window, or the standard screen's if no panel is visible
abbrev pub cursor_of_topmost : WindowMap → Panels → Place
cursor_of_topmost window panels = cursor_on_screen window (window_or_standard panels (topmost panels))
