-- What noutrefresh and pnoutrefresh draw on each line of the screen.
use Rattle.std.specs.Prelude.{◌≡◌, ◌+◌, ◌-◌, ◌<◌, ◌≤◌}
use Rattle.compose.specs.{ℕ, false, Some, None, arith, nat_tests, Place, LARGEST_PAD, LARGEST_SCREEN, Window, Windows, cell_at, AreSoundWindows, copywin_drawing, touched_columns, first_of}
use Rattle.compose.specs.{pnoutrefresh_tests, touched_cells, Columns}
use Rattle.world.proofs.Allowed.{passed}
use Rattle.picture.proofs.Placement.{IsPlacedAt}
use Rattle.compose.proofs.Laying.{HasPiece, IsBare}

-- ---- one window

module _ (windows : Windows) (w : ℕ) (place : Place) (lines : ℕ) (h : IsPlacedAt windows w place lines) where
  -- above the window, and below it
  pub bare-above : (v : ℕ) → v < place.0 → IsBare (touched_cells windows.window w) windows.columns v
  bare-above v before u left = grind (arith, nat_tests)

  pub bare-below : (v : ℕ) → place.0 + lines ≤ v → IsBare (touched_cells windows.window w) windows.columns v
  bare-below v from u left = grind (arith, nat_tests)

  -- by what the table says of the line
  pub bare-untouched : (y : ℕ) → touched_columns windows.window w y ≡ None → IsBare (touched_cells windows.window w) windows.columns (place.0 + y)
  bare-untouched y none u left = grind arith

  pub piece-touched : (y : ℕ) (columns : Columns) → y < lines → touched_columns windows.window w y ≡ Some columns
      → HasPiece (touched_cells windows.window w) windows.columns (place.0 + y) (place.1 + columns.first) (columns.last - columns.first + 1)
      (λ u. cell_at windows.window w y (columns.first + (u - (place.1 + columns.first))))
  piece-touched y columns below some u left = grind (arith, nat_tests)

  -- they lie in the window, and so on the screen
  pub touched-inside : (y : ℕ) (columns : Columns) → touched_columns windows.window w y ≡ Some columns → (columns.first ≤ columns.last) × (place.1 + columns.last < windows.columns)
  touched-inside y columns some = grind arith

-- ---- a pad

-- a rectangle of a pad that is there, for one of the screen
pub record IsOfPad (windows : Windows) (w py px top left bottom right : ℕ) : Type 0 where
  pub window : Window
  pub there : windows.window w ≡ Some window
  pub down : top ≤ bottom
  pub across : left ≤ right
  pub last_line : py + (bottom - top) < window.lines
  pub last_column : px + (right - left) < window.columns
  pub on_line : bottom < windows.lines
  pub on_column : right < windows.columns
  pub few_lines : (window.lines ≤ LARGEST_PAD) × (windows.lines ≤ LARGEST_SCREEN)
  pub few_columns : (window.columns ≤ LARGEST_PAD) × (windows.columns ≤ LARGEST_SCREEN)

pub of-pad : (windows : Windows) (w py px top left bottom right : ℕ) → AreSoundWindows windows → first_of (pnoutrefresh_tests windows w py px top left bottom right) ≡ None
    → IsOfPad windows w py px top left bottom right
of-pad windows w py px top left bottom right sound h = grind (arith, passed, nat_tests)

module _ (windows : Windows) (w py px top left bottom right : ℕ) (h : IsOfPad windows w py px top left bottom right) where
  pub pad-above : (v : ℕ) → v < top → IsBare (copywin_drawing windows.window w py px top left bottom right false) windows.columns v
  pad-above v before u on = grind (arith, nat_tests)

  pub pad-below : (v : ℕ) → top + (bottom - top + 1) ≤ v → IsBare (copywin_drawing windows.window w py px top left bottom right false) windows.columns v
  pad-below v from u on = grind (arith, nat_tests)

  pub pad-piece : (y : ℕ) → y < bottom - top + 1
      → HasPiece (copywin_drawing windows.window w py px top left bottom right false) windows.columns (top + y) left (right - left + 1) (λ u. cell_at windows.window w (py + y) (px + (u - left)))
  pad-piece y below u on = grind (arith, nat_tests)
