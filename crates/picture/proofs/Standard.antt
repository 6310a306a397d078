-- In a sound world the standard screen holds each place of the screen, and the window of each visible panel is there.
use Rattle.std.specs.Prelude.{◌≡◌, ◌<◌}
use Rattle.picture.specs.{ℕ, true, false, Option, arith, IsSomeAnd, option_map_or, lt-ltb, le-leb, Window, WindowMap, Windows, Panels, holds, holds_place, standard_screen, AreSoundPanels}
use Rattle.picture.specs.{AreSoundWindows, IsStandardScreen, HasPanelWindows}

holds-there : (windows : Windows) (o : Option Window) (y x : ℕ) → IsSomeAnd o (IsStandardScreen windows) → y < windows.lines → x < windows.columns
    → option_map_or (holds_place y x) o false ≡ true
holds-there windows o y x h below left = grind (arith, lt-ltb, le-leb)

pub standard-holds : (windows : Windows) (y x : ℕ) → AreSoundWindows windows → y < windows.lines → x < windows.columns → holds windows.window standard_screen y x ≡ true
standard-holds windows y x h below left = holds-there windows (windows.window standard_screen) y x h.standard below left

-- ---- the window of each visible panel is there

pub sound-windows : (window : WindowMap) (panels : Panels) → AreSoundPanels window panels → HasPanelWindows window panels
sound-windows window panels h = grind arith
