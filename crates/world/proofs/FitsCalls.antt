-- The tests of the calls that write and copy ensure what their effects require, and given cells are cells.
use Rattle.std.specs.Prelude.{◌≡◌, ◌∷◌}
use Rattle.world.specs.{ℕ, true, Some, None, arith, nat_tests, and_le_l, and_le_r, IsCell, is_printable, written_glyph, Window, Windows, AreSettingsWithin, AreSoundWindows, copying_change}
use Rattle.world.specs.{copying_refusal, writing_edit, writing_refusal, zero, suc, List, [], map, slice_index_or, blank, Rect, fill_edit, given_cell, put_edit}
use Rattle.world.proofs.Allowed.{passed}
use Rattle.world.proofs.Fits.{FitsChange, FitsEdit}
use Rattle.world.proofs.SoundCells.{IsCell-written, attributes-or, copied-cells, held-cell, overlaid, shown, touched-within}
use Rattle.world.specs.declared.written_calls.Copying.{Copying}
use Rattle.world.specs.declared.written_calls.Writing.{Writing}
use Rattle.world.specs.declared.written_calls.Writing.TheVariants.{Insch}

-- ---- the calls that write

module _ (windows : Windows) (sound : AreSoundWindows windows) (w : ℕ) (a : Window) (there : windows.window w ≡ Some a) where
  within : AreSettingsWithin a.lines a.columns a.settings
  within = let here = sound.each w in grind arith

  written : (character : ℕ) → is_printable character ≡ true → IsCell (written_glyph a.settings character)
  written character printable = IsCell-written _ _ a.settings character within printable

pub fits-writing : (windows : Windows) (writing : Writing) → AreSoundWindows windows → writing_refusal windows writing ≡ None → FitsEdit windows (writing_edit windows writing)
fits-writing windows (Insch win character) sound accepted = grind (arith, nat_tests, passed, shown, written)
fits-writing windows writing sound accepted = grind (arith, nat_tests, passed, attributes-or, and_le_l, and_le_r, within, shown)

-- ---- the calls that copy and mark

pub fits-copying : (windows : Windows) (copying : Copying) → AreSoundWindows windows → copying_refusal windows copying ≡ None → FitsChange windows (copying_change windows copying)
fits-copying windows copying sound accepted = grind (arith, passed, held-cell, overlaid, touched-within, copied-cells)

-- ---- given cells

cell-given : (number : ℕ) → IsCell (given_cell number)
cell-given number = grind (arith, nat_tests, and_le_r)

cell-listed : (numbers : List ℕ) (k : ℕ) → IsCell (slice_index_or (map given_cell numbers) k blank)
cell-listed [] k = grind arith
cell-listed (number ∷ numbers) zero = cell-given number
cell-listed (number ∷ numbers) (suc k) = cell-listed numbers k

pub fits-fill : (windows : Windows) (w : ℕ) (r : Rect) (number : ℕ) → FitsEdit windows (fill_edit w r number)
fits-fill windows w r number = let cell = cell-given number in grind arith

pub fits-put : (windows : Windows) (w y x : ℕ) (numbers : List ℕ) → FitsEdit windows (put_edit w y x numbers)
fits-put windows w y x numbers = grind (arith, (cell-listed numbers))
