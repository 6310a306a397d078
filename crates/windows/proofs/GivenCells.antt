-- Given cells: which are refused, and the rectangles of their drawings.
use Rattle.std.specs.Prelude.{◌≡◌, ◌+◌, ◌-◌, ◌<◌, ◌≤◌, ◌∷◌, ◌||◌}
use Rattle.windows.specs.{ℕ, List, None, Some, length, arith, cases_eq, nat_tests, Glyph, Rect, Window, Windows, Drawing, put, frame_of, drawing_frame, listed_cells, rectangle_filled}
use Rattle.windows.specs.{Option, ap, sym, ◌∙◌, refl, not, [], list_all, list_any, true, false, cases_Bool, gives_cell, gives_no_character, gives_no_pair, IsStateOf}
use Rattle.world.proofs.FrameLaws.{frame_of-none}
use Rattle.windows.specs.declared.state.WindowState.{WindowState}
use Rattle.windows.proofs.NextWrites.{nothing}
use Rattle.grids.proofs.Copies.{block}

-- some give no cells where some give no character, or no pair
lacking : (numbers : List ℕ) → list_all gives_cell numbers ≡ not (list_any gives_no_character numbers || list_any gives_no_pair numbers)
lacking [] = refl
lacking (first ∷ numbers) = grind (arith, nat_tests, (lacking numbers))

pub none_lack : (numbers : List ℕ) → list_all gives_cell numbers ≡ true → (list_any gives_no_character numbers ≡ false) × (list_any gives_no_pair numbers ≡ false)
none_lack numbers all = grind (arith, (lacking numbers), cases_Bool (list_any gives_no_character numbers), cases_Bool (list_any gives_no_pair numbers))

pub some_lack : (numbers : List ℕ) → list_all gives_cell numbers ≡ false → list_any gives_no_character numbers ≡ false → list_any gives_no_pair numbers ≡ true
some_lack numbers some characters = grind (arith, (lacking numbers), cases_Bool (list_any gives_no_pair numbers))

module _ (a : Window) where
  pub frame-rectangle : (r : Rect) (c : Glyph) → r.top ≤ r.bottom → r.bottom < a.lines → r.left ≤ r.right → r.right < a.columns → frame_of a (rectangle_filled r c) ≡ Some r
  frame-rectangle r c lines below columns on = block a (rectangle_filled r c) r lines below columns on (λ v u h k. grind (arith, nat_tests))

  pub frame-listed : (y left : ℕ) (cells : List Glyph) → 0 < length cells → y < a.lines → left + length cells ≤ a.columns
      → frame_of a (listed_cells y left cells) ≡ Some (record { top = y; left = left; bottom = y; right = left + length cells - 1 })
  frame-listed y left cells some below on = block a (listed_cells y left cells) _ (omega arith) below (omega arith) (omega arith) (λ v u h k. grind (arith, cases_eq, nat_tests))

  pub frame-no_cells : (y left : ℕ) (cells : List Glyph) → length cells ≡ 0 → frame_of a (listed_cells y left cells) ≡ None
  frame-no_cells y left cells none = frame_of-none a (listed_cells y left cells) (λ v u there. grind (arith, nat_tests))

-- ---- the rectangles that the calls answer

module _ (windows : Windows) (w : ℕ) (s : WindowState) (h : IsStateOf windows w s) where
  framed : (f : Drawing) (o : Option Rect) → frame_of h.window f ≡ o → o ≡ drawing_frame windows w (λ a. f)
  framed f o is = let there = h.there in grind arith

  pub filled-frame : (r : Rect) (c : Glyph) → r.top ≤ r.bottom → r.bottom < s.lines → r.left ≤ r.right → r.right < s.columns → Some r ≡ drawing_frame windows w (λ a. rectangle_filled r c)
  filled-frame r c lines below columns on =
      framed (rectangle_filled r c) (Some r) (frame-rectangle h.window r c lines (omega (arith, h.lines, below)) columns (omega (arith, h.columns, on)))

  pub row-frame : (r : Rect) (y left : ℕ) (cells : List Glyph) → 0 < length cells → y < s.lines → left + length cells ≤ s.columns
      → r ≡ record { top = y; left = left; bottom = y; right = left + length cells - 1 } → Some r ≡ drawing_frame windows w (λ a. listed_cells y left cells)
  row-frame r y left cells some below on is =
      framed (listed_cells y left cells) (Some r) (frame-listed h.window y left cells some (omega (arith, h.lines, below)) (omega (arith, h.columns, on)) ∙ ap Some (sym is))

  pub no-frame : (y left : ℕ) (cells : List Glyph) → length cells ≡ 0 → None ≡ drawing_frame windows w (λ a. listed_cells y left cells)
  no-frame y left cells none = framed (listed_cells y left cells) None (frame-no_cells h.window y left cells none)

  pub nothing-put : (y left : ℕ) (cells : List Glyph) → length cells ≡ 0 → windows ≡ put windows w (listed_cells y left cells)
  nothing-put y left cells none = nothing windows w s h (listed_cells y left cells) (λ v u. grind (arith, nat_tests))
