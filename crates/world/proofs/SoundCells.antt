-- In sound windows each place of a window shows a cell, what is drawn are cells, and what is touched are columns of its line.
use Rattle.std.specs.Prelude.{◌≡◌, ◌+◌, ◌-◌, ◌<◌, ◌≤◌}
use Rattle.world.specs.{ℕ, zero, suc, Bool, true, Option, Some, arith, IsSome, MatchOption, ⊤, bit_or, nat_tests, or_lt, Glyph, IsCell, is_printable, Place, HasPlace, Window, Windows, cell_at}
use Rattle.world.specs.{cell_in_grid, own_within, touched_below, window_limit, cell_on_screen, holds, at_place, to_end_of_line, written_glyph, overlaid_cell, AreColumnsWithin, AreSettingsWithin}
use Rattle.world.specs.{AreSoundWindows, copywin_drawing}
use Rattle.world.proofs.Fits.{HasCellsOnly}
use Rattle.world.proofs.WindowLaws.{own-onward}
use Rattle.world.specs.declared.settings.Columns.{Columns}
use Rattle.world.specs.declared.settings.Settings.{Settings}

-- ---- what windows show

module _ (windows : Windows) (sound : AreSoundWindows windows) where
  cell-within : (n w y x : ℕ) → HasPlace windows.window w y x → IsSome (own_within n windows.window w y x) → IsCell (cell_in_grid windows.window (own_within n windows.window w y x))
  cell-within zero w y x has found = cc
  cell-within (suc n) w y x has found = let here = sound.each w in grind (arith, (cell-within n))

pub cell-sound : (windows : Windows) (w y x : ℕ) → AreSoundWindows windows → HasPlace windows.window w y x → IsCell (cell_at windows.window w y x)
cell-sound windows w y x sound has = let here = sound.each w in let moved = own-onward windows.window w y x in grind (arith, (cell-within windows sound window_limit w y x))

pub shown : (windows : Windows) (w : ℕ) (a : Window) (y x : ℕ) → AreSoundWindows windows → windows.window w ≡ Some a → y < a.lines → x < a.columns
    → IsCell (cell_at windows.window w y x)
shown windows w a y x sound there below left = cell-sound windows w y x sound (grind arith)

pub held-cell : (windows : Windows) (w y x : ℕ) → AreSoundWindows windows → holds windows.window w y x ≡ true → IsCell (cell_on_screen windows.window w y x)
held-cell windows w y x sound h = cell-sound windows w _ _ sound (grind (arith, nat_tests))

-- ---- what is touched

pub touched-within : (columns n : ℕ) (test : ℕ → Bool) (r : Option Columns) → n ≤ columns → AreColumnsWithin columns r → AreColumnsWithin columns (touched_below n test r)
touched-within columns zero test r few h = h
touched-within columns (suc n) test r few h = grind (arith, (touched-within columns n))

-- ---- what is written

pub attributes-or : (a b : ℕ) → a < 64 → b < 64 → bit_or a b < 64
attributes-or = or_lt 6

pub IsCell-written : (lines columns : ℕ) (settings : Settings) (character : ℕ) → AreSettingsWithin lines columns settings → is_printable character ≡ true
    → IsCell (written_glyph settings character)
IsCell-written lines columns settings character within printable = grind (arith, nat_tests, attributes-or)

-- ---- what is drawn

module _ (a : Window) (glyph : Glyph) (cell : IsCell glyph) where
  pub cells-at_place : (place : Place) → HasCellsOnly a (at_place place glyph)
  cells-at_place place y x below left = grind arith

  pub cells-to_end_of_line : (place : Place) → HasCellsOnly a (to_end_of_line place glyph)
  cells-to_end_of_line place y x below left = grind arith

pub overlaid : (overlay : Bool) (glyph : Glyph) → IsCell glyph → MatchOption (overlaid_cell overlay glyph) ⊤ IsCell
overlaid overlay glyph cell = grind arith

pub copied-cells : (windows : Windows) (src sy sx top left bottom right : ℕ) (overlay : Bool) → AreSoundWindows windows → HasPlace windows.window src (sy + (bottom - top)) (sx + (right - left))
    → (y x : ℕ) → MatchOption (copywin_drawing windows.window src sy sx top left bottom right overlay y x) ⊤ IsCell
copied-cells windows src sy sx top left bottom right overlay sound has y x = grind (arith, nat_tests, cell-sound, overlaid)
