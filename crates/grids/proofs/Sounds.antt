-- The windows of a table are sound.
use Rattle.std.specs.Prelude.{◌<◌}
use Rattle.grids.specs.{ℕ, Option, IsSomeAnd, MatchOption, List, arith, ⊤, option_map, AllByRecursion, All-from_recursion, All-get_or, IsCell, blank, Sheet, line_of, glyph_at, AreCells, HasSize}
use Rattle.grids.specs.{LARGEST_PAD, HasPlace, Windows, HasCells, IsPartOf, IsSoundWindow, AreSoundWindows, Kept, IsGridOf, window_of, backing_of, WindowTable, IsWindowTable, windows, slot_at}
use Rattle.grids.specs.{window_map, FitsIn, HasParentIn}
use Rattle.cell.proofs.PictureLemmas.{length-line}
use Rattle.grids.specs.declared.slot.Part.{Part}
use Rattle.grids.specs.declared.slot.Cells.{Cells}
use Rattle.grids.specs.declared.slot.Cells.TheVariants.{Own, Shared}
use Rattle.grids.proofs.Chain.{each_at, chain_ends}
use Rattle.grids.proofs.OneSlot.{slot_below}

cell_in : (picture : Sheet) (lines columns y x : ℕ) → HasSize lines columns picture → AreCells picture → y < lines → x < columns → IsCell (glyph_at picture (y, x))
cell_in picture lines columns y x size cells below left =
    let width = length-line y size below in
    let line : AllByRecursion IsCell (line_of picture y) = All-get_or (AllByRecursion IsCell) picture y _ (omega (arith, size.height)) (All-from_recursion (AllByRecursion IsCell) picture cells) in
    All-get_or IsCell (line_of picture y) x blank (omega (arith, width)) (All-from_recursion IsCell (line_of picture y) line)

parent_fits : (k : Kept) (part : Part) (o : Option Kept) → MatchOption o ⊥ (FitsIn k part) → IsSomeAnd (option_map window_of o) (IsPartOf part.line part.column (window_of k))
parent_fits k part o h = grind arith

cells_of : (slots : List (Option Kept)) (k : Kept) (cells : Cells) → IsGridOf k.lines k.columns cells → HasParentIn slots k cells → HasCells (window_map slots) (window_of k) (backing_of cells)
cells_of slots k (Own picture) grid chained = λ y x below left. cell_in picture k.lines k.columns y x grid.0 grid.1 below left
cells_of slots k (Shared part) grid chained = parent_fits k part (slot_at slots part.parent) chained

pub sound : (t : WindowTable) → IsWindowTable t → AreSoundWindows (windows t)
sound t s = grind (arith, each_at, slot_below, cells_of, chain_ends)

-- each window of a table is sound
pub each_sound : (t : WindowTable) (w : ℕ) → IsWindowTable t → MatchOption (window_map t.slots w) ⊤ (IsSoundWindow (windows t) w)
each_sound t w h = (sound t h).each w

-- the columns of a window are few
pub few_columns : (windows : Windows) (w y x : ℕ) → AreSoundWindows windows → HasPlace windows.window w y x → x < LARGEST_PAD
few_columns windows w y x sound there = grind arith
