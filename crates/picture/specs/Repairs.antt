-- What is wanted of a picture so that composing its damaged places alone makes it that of the windows and panels.
use Rattle.std.specs.Prelude.{◌≡◌, ◌<◌}
use Rattle.picture.specs.Names.{ℕ, false, List, length, Option, HasSize, Picture, shown_at, Pairs, shown, Panels, found_from_top, AreColumnsWithin, AreSoundPanels, AreSoundWindows, Windows, Columns}
use Rattle.picture.specs.Names.{columns_of, is_among}

-- The windows and the panels are sound, and everywhere but at the damage a picture of the screen's size shows what the search from the top finds.
pub record IsRepairable (ws : Windows) (ps : Panels) (pairs : Pairs) (damage : List (Option Columns)) (picture : Picture) : Type 0 where
  pub windows : AreSoundWindows ws
  pub panels : AreSoundPanels ws.window ps
  pub height : length damage ≡ ws.lines
  pub within : (y : ℕ) → AreColumnsWithin ws.columns (columns_of damage y)
  pub size : HasSize ws.lines ws.columns picture
  pub covered : (y x : ℕ) → y < ws.lines → x < ws.columns → is_among damage y x ≡ false → shown_at picture (y, x) ≡ shown pairs (found_from_top ws.window ps y x)
