-- Two lines that are the same up to a column, or from one on, and in the range beside it; for `first_diff`, `last_diff`
pub mod Ranges
-- The lines of a grid whose cells are one after another: each line, a change of one cell, and equal sizes; for `copy_from`, `new`,
-- `put_cells` and others
pub mod GridLemmas
-- Pictures of a known size: what each line has, and when two are equal; for `clear`, `fill` and others
pub mod PictureLemmas
-- Lines of which some places are filled with one cell, one after another; for `fill_rectangle`, `fill_lines`
pub mod Fills
-- A piece of a line of a grid that is written at once; for `fill_lines`, `put_cells`, `give_cells`, `show_cells`
pub mod PieceWrites
-- The cells that a grid has, with the blanks that are missing after them; for `reach`, `row` and others
pub mod Blanks
-- A grid with one cell everywhere; for `clear`
pub mod Clearing
-- Cells as numbers, one in each lane, and where no lane differs; for `lanes`, `same_lanes`
pub mod LaneLaws
-- Cells that are shown many together; for `show`, `show_many`
pub mod ShownPieces
-- Cells that are copied to another place of a grid; for `copy_block` and what it calls
pub mod Moves
