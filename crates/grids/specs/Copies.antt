-- A copy from one place on to another: what it wants, and what it does.
use Rattle.std.specs.Prelude.{◌≡◌, ◌+◌, ◌-◌, ◌<◌}
use Rattle.grids.specs.Names.{ℕ, Bool, is_some, Option, Rect, Drawing, HasPlace, WindowMap, Windows, cell_at, put, overlaid_cell, copied_cells, drawing_frame, rectangle_copied}
use Rattle.grids.specs.declared.place.Place.{Place}

-- both places are there
pub record AreThere (window : WindowMap) (source target : Place) : Type 0 where
  pub from : HasPlace window source.win.0 source.line source.column
  pub to : HasPlace window target.win.0 target.line target.column

-- n cells of a line from each place on
abbrev pub AreRowsThere : WindowMap → Place → Place → ℕ → Type 0
AreRowsThere window from to n = AreThere window (record from { column = from.column + n - 1 }) (record to { column = to.column + n - 1 })

-- so many lines and columns from each place on
abbrev pub AreRectanglesThere : WindowMap → Place → Place → ℕ → ℕ → Type 0
AreRectanglesThere window from to lines columns =
    AreRowsThere window (record from { line = from.line + lines - 1 }) (record to { line = to.line + lines - 1 }) columns

-- a drawing was written through window w, and the answer is the smallest rectangle of the window that holds it
pub record Drawn (old : Windows) (w : ℕ) (drawing : Drawing) (answer : Option Rect) (new : Windows) : Type 0 where
  pub written : new ≡ put old w drawing
  pub frame : answer ≡ drawing_frame old w (λ a. drawing)

-- n cells of a line were copied
abbrev pub RowCopied : Windows → Place → Place → ℕ → Bool → Option Rect → Windows → Type 0
RowCopied old from to n overlay frame new = Drawn old to.win.0 (copied_cells old.window from.win.0 from.line from.column to.line to.column n overlay) frame new

-- so many lines and columns were copied
abbrev pub RectangleCopied : Windows → Place → Place → ℕ → ℕ → Bool → Option Rect → Windows → Type 0
RectangleCopied old from to lines columns overlay frame new =
    Drawn old to.win.0 (rectangle_copied old.window from.win.0 from.line from.column to.line to.column lines columns overlay) frame new

-- n cells of a line are all copied or none, as of an overlay no spaces are
abbrev pub AreAlike : WindowMap → Bool → ℕ → ℕ → ℕ → ℕ → Type 0
AreAlike window overlay w y x n = (j : ℕ) → j < n → is_some (overlaid_cell overlay (cell_at window w y (x + j))) ≡ is_some (overlaid_cell overlay (cell_at window w y x))
