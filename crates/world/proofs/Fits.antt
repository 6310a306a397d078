-- What each effect requires of a sound world, so that it leaves one.
use Rattle.std.specs.Prelude.{◌≡◌, ◌≢◌, ◌+◌, ◌<◌, ◌≤◌}
use Rattle.world.specs.{ℕ, true, false, Some, None, IsSome, IsSomeAnd, MatchOption, ⊤, list_any, IsCell, ArePairs, LARGEST_PAD, MOST_PANELS, MOST_WINDOWS, Backing, own_grid, part_of, Drawing}
use Rattle.world.specs.{Window, Windows, Panels, is_in_panel, standard_screen, World, AreColumnsWithin, AreSettingsWithin, AreSoundPanels, HasCells, IsOnScreen, IsPartOf, Change, asks, edits, marks}
use Rattle.world.specs.{makes, deletes, moves, shifts, Edit, sets, draws, types, Effect, arranges, refreshes, composes, shows, colours, Order, changes, adds, orders, carries, with_colours}
use Rattle.world.specs.{has_derived, is_bad_character}
use Rattle.world.specs.declared.settings.Settings.{Settings}

-- ---- edits

-- each cell of the drawing that is in the window is a cell
abbrev pub HasCellsOnly : Window → Drawing → Type 0
HasCellsOnly a f = (y x : ℕ) → y < a.lines → x < a.columns → MatchOption (f y x) ⊤ IsCell

-- the settings stay in a window of that size
abbrev pub KeepsSettings : Window → (Settings → Settings) → Type 0
KeepsSettings a change = AreSettingsWithin a.lines a.columns a.settings → AreSettingsWithin a.lines a.columns (change a.settings)

abbrev pub FitsEdit : Windows → Edit → Type 0
FitsEdit windows (sets w change) = (a : Window) → windows.window w ≡ Some a → KeepsSettings a change
FitsEdit windows (draws w drawing change) =
    (a : Window) → windows.window w ≡ Some a → HasCellsOnly a (drawing a) × MatchOption change ⊤ (KeepsSettings a)
FitsEdit windows (types w text) = list_any is_bad_character text ≡ false

-- ---- changes

-- a window that may be made
pub record IsNewWindow (windows : Windows) (a : Window) : Type 0 where
  pub has_line : 0 < a.lines
  pub has_column : 0 < a.columns
  pub few_lines : a.lines ≤ LARGEST_PAD
  pub few_columns : a.columns ≤ LARGEST_PAD
  pub on_screen : IsOnScreen windows.lines windows.columns a
  pub cells : HasCells windows.window a a.backing
  pub settings : AreSettingsWithin a.lines a.columns a.settings
  pub touched : (y : ℕ) → AreColumnsWithin a.columns (a.touched y)

-- the part of the parent from an offset on
abbrev pub FitsParent : Windows → ℕ → ℕ → Window → Backing → Type 0
FitsParent windows y x a (own_grid cells) = ⊤
FitsParent windows y x a (part_of parent line column) = IsSomeAnd (windows.window parent) (IsPartOf y x a)

abbrev pub FitsChange : Windows → Change → Type 0
FitsChange windows (asks reply) = ⊤
FitsChange windows (edits edit) = FitsEdit windows edit
FitsChange windows (marks test change) =
    (u : ℕ) (a : Window) → windows.window u ≡ Some a → test u ≡ true → 0 < a.columns → ((y : ℕ) → AreColumnsWithin a.columns (a.touched y))
    → (y : ℕ) → AreColumnsWithin a.columns ((change u a).touched y)
FitsChange windows (makes n o) = (windows.window n ≡ None) × (n ≤ MOST_WINDOWS) × IsSomeAnd o (IsNewWindow windows)
FitsChange windows (deletes w) = (w ≢ standard_screen) × (has_derived windows.window w ≡ false)
FitsChange windows (moves w place) =
    (w ≢ standard_screen) × IsSomeAnd (windows.window w) (λ a. IsSome a.place × (place.0 + a.lines ≤ windows.lines) × (place.1 + a.columns ≤ windows.columns))
FitsChange windows (shifts w place) = IsSomeAnd (windows.window w) (λ a. FitsParent windows place.0 place.1 a a.backing)

-- ---- orders

abbrev pub FitsOrder : Windows → Panels → Order → Type 0
FitsOrder windows panels (changes change) = FitsChange windows change
FitsOrder windows panels (adds p w) =
    (panels.window p ≡ None) × (1 ≤ p) × (p ≤ MOST_PANELS) × (w ≢ standard_screen) × IsSomeAnd (windows.window w) (λ a. IsSome a.place) × (is_in_panel panels w ≡ false)
FitsOrder windows panels (orders p order) = AreSoundPanels windows.window order
FitsOrder windows panels (carries p place) =
    IsSomeAnd (panels.window p) (λ w. IsSomeAnd (windows.window w) (λ a. (place.0 + a.lines ≤ windows.lines) × (place.1 + a.columns ≤ windows.columns)))

-- ---- the world

abbrev pub FitsEffect : World → Effect → Type 0
FitsEffect world (arranges order) = FitsOrder world.windows world.panels order
FitsEffect world (refreshes w test drawing cursor) =
    ((y x : ℕ) → MatchOption (drawing y x) ⊤ IsCell) × (cursor.0 < world.windows.lines) × (cursor.1 < world.windows.columns)
FitsEffect world composes = ⊤
FitsEffect world shows = ⊤
FitsEffect world (colours pair foreground background) = ArePairs (with_colours world.pairs pair foreground background)
