-- What a call writes, through which window; and the windows whose places lead elsewhere after it.
-- X/Open Curses Issue 7: subwin and derwin (a derived window shares the cells of its parent). That a call writes
-- through one window at most is Curspan's own finding.
use Rattle.std.specs.Prelude.{◌≡◌, ℕ, Bool, false, ◌==◌, ◌||◌, Some}
use Rattle.cell.specs.Glyphs.{Glyph}
use Rattle.world.specs.WindowMaps.{HasPlace, WindowMap, Windows, derives}
use Rattle.world.specs.Worlds.{World}
use Rattle.world.specs.Effects.{Edit, edit_drawing, edit_window, Change, edits, makes, deletes, shifts, changes, Effect, arranges}
use Rattle.world.specs.calls.Dispatch.{world_after}
use Rattle.world.specs.declared.call.Call.{Call}

-- the windows after a call that was accepted
abbrev pub windows_after_call : World → Call → WindowMap
windows_after_call world call = (world_after world call).windows.window

-- The effect writes this cell at the place (y, x) of window w.
pub record WritesAt (windows : Windows) (effect : Effect) (w y x : ℕ) (glyph : Glyph) : Type 0 where
  pub edit : Edit
  pub is : effect ≡ arranges (changes (edits edit))
  pub window : edit_window edit ≡ w
  pub place : HasPlace windows.window w y x
  pub cell : edit_drawing windows edit y x ≡ Some glyph

-- Some window's place (y, x) is written.
abbrev pub Writes : Windows → Effect → ℕ → ℕ → Type 0
Writes windows effect y x = (w : ℕ) × (glyph : Glyph) × WritesAt windows effect w y x glyph

-- Window u is made or deleted; or it is moved in its parent, or derives from one that is.
abbrev pub leads_elsewhere_by : Windows → Change → ℕ → Bool
leads_elsewhere_by windows (makes n a) u = u == n
leads_elsewhere_by windows (deletes w) u = u == w
leads_elsewhere_by windows (shifts w place) u = u == w || derives windows.window w u
leads_elsewhere_by windows change u = false

abbrev pub leads_elsewhere : Windows → Effect → ℕ → Bool
leads_elsewhere windows (arranges (changes change)) u = leads_elsewhere_by windows change u
leads_elsewhere windows effect u = false
