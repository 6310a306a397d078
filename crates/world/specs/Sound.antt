-- The sound worlds: those that there can be. Each call leaves a sound world sound.
use Rattle.std.specs.Prelude.{◌≡◌, ◌≢◌, ◌+◌, ◌<◌, ◌≤◌}
use Rattle.world.specs.Names.{ℕ, Option, Some, None, is_some, IsSome, IsSomeAnd, MatchOption, ⊤, All, AllPairs, bits_of, Glyph, IsCell, origin, HasSize, AreShown, ArePairs, LARGEST_PAD}
use Rattle.world.specs.Names.{LARGEST_SCREEN, LAST_PAIR, MOST_PANELS, MOST_WINDOWS, VirtualScreen}
use Rattle.world.specs.WindowMaps.{Backing, own_grid, part_of, Window, WindowMap, Windows, own}
use Rattle.world.specs.PanelOrder.{Panels, standard_screen}
use Rattle.world.specs.Worlds.{World}
use Rattle.world.specs.declared.settings.Columns.{Columns}
use Rattle.world.specs.declared.settings.Settings.{Settings}

-- the touched columns are among the line's
abbrev pub AreColumnsWithin : ℕ → Option Columns → Type 0
AreColumnsWithin columns None = ⊤
AreColumnsWithin columns (Some r) = (r.first ≤ r.last) × (r.last < columns)

-- the window lies on the screen; a pad lies nowhere
abbrev pub IsOnScreen : ℕ → ℕ → Window → Type 0
IsOnScreen lines columns a = MatchOption a.place ⊤ (λ p. (p.0 + a.lines ≤ lines) × (p.1 + a.columns ≤ columns))

-- the part of the parent is inside it, and both are pads or neither
pub record IsPartOf (line column : ℕ) (a parent : Window) : Type 0 where
  pub lines : line + a.lines ≤ parent.lines
  pub columns : column + a.columns ≤ parent.columns
  pub kind : is_some a.place ≡ is_some parent.place

-- a grid has cells; a derived window has a parent, and lies in it
abbrev pub HasCells : WindowMap → Window → Backing → Type 0
HasCells window a (own_grid cells) = (y x : ℕ) → y < a.lines → x < a.columns → IsCell (cells y x)
HasCells window a (part_of parent line column) = IsSomeAnd (window parent) (IsPartOf line column a)

-- cursor and region lie in the window
pub record AreSettingsWithin (lines columns : ℕ) (settings : Settings) : Type 0 where
  pub cursor_line : settings.cursor.0 < lines
  pub cursor_column : settings.cursor.1 < columns
  pub region_order : settings.region.0 ≤ settings.region.1
  pub region_end : settings.region.1 < lines
  pub attributes : bits_of settings.attrs < 64
  pub background : IsCell settings.background
  pub pair : settings.pair ≤ LAST_PAIR

pub record IsSoundWindow (windows : Windows) (w : ℕ) (a : Window) : Type 0 where
  pub number : w ≤ MOST_WINDOWS
  pub has_line : 0 < a.lines
  pub has_column : 0 < a.columns
  pub few_lines : a.lines ≤ LARGEST_PAD
  pub few_columns : a.columns ≤ LARGEST_PAD
  pub on_screen : IsOnScreen windows.lines windows.columns a
  pub cells : HasCells windows.window a a.backing
  pub chain_ends : IsSome (own windows.window w 0 0)
  pub settings : AreSettingsWithin a.lines a.columns a.settings
  pub touched : (y : ℕ) → AreColumnsWithin a.columns (a.touched y)

-- the standard screen has a grid of its own and covers the screen
pub record IsStandardScreen (windows : Windows) (a : Window) : Type 0 where
  pub lines : a.lines ≡ windows.lines
  pub columns : a.columns ≡ windows.columns
  pub place : a.place ≡ Some origin
  pub cells : ℕ → ℕ → Glyph
  pub grid : a.backing ≡ own_grid cells

pub record AreSoundWindows (windows : Windows) : Type 0 where
  pub has_line : 0 < windows.lines
  pub has_column : 0 < windows.columns
  pub few_lines : windows.lines ≤ LARGEST_SCREEN
  pub few_columns : windows.columns ≤ LARGEST_SCREEN
  pub standard : IsSomeAnd (windows.window standard_screen) (IsStandardScreen windows)
  pub each : (w : ℕ) → MatchOption (windows.window w) ⊤ (IsSoundWindow windows w)

-- a panel's window is there, is neither a pad nor the standard screen, and is in no other panel
pub record IsSoundPanel (window : WindowMap) (panels : Panels) (p w : ℕ) : Type 0 where
  pub from_one : 1 ≤ p
  pub number : p ≤ MOST_PANELS
  pub window_is : IsSomeAnd (window w) (λ a. IsSome a.place)
  pub not_standard : w ≢ standard_screen
  pub alone : (q : ℕ) → panels.window q ≡ Some w → q ≡ p

-- a panel is visible once at most
pub record AreSoundPanels (window : WindowMap) (panels : Panels) : Type 0 where
  pub once : AllPairs (λ p q. p ≢ q) panels.visible
  pub visible : All (λ p. IsSome (panels.window p)) panels.visible
  pub each : (p : ℕ) → MatchOption (panels.window p) ⊤ (IsSoundPanel window panels p)

pub record IsSoundVirtual (lines columns : ℕ) (virtual : VirtualScreen) : Type 0 where
  pub size : HasSize lines columns virtual.picture
  pub cells : AreShown virtual.picture
  pub line : virtual.cursor.0 < lines
  pub column : virtual.cursor.1 < columns

pub record IsSound (world : World) : Type 0 where
  pub windows : AreSoundWindows world.windows
  pub panels : AreSoundPanels world.windows.window world.panels
  pub pairs : ArePairs world.pairs
  pub virtual : IsSoundVirtual world.windows.lines world.windows.columns world.virtual
