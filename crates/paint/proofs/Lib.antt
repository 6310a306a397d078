-- A text that is gathered, appended to, and passed on; for `hand_on`
pub mod Gathering
-- The strokes of a pen, one after another, and what each shows; for `end`, `come_to` and others
pub mod PenSteps
-- What changed cells may cost; for `FoundStrokes`
pub mod Costs
-- What a terminal shows after the opening; for `open`
pub mod Shows
-- The strokes of a doupdate make a text of it; for `send_changes`
pub mod Holding
-- What a text that was sent means for a painter; for `send_text`
pub mod SentTexts
-- The text of a doupdate after a stream that agrees with the painter: where it clears, it doesn't matter what was sent before; for
-- `agrees_after_fault`, `agrees_after_update`, `shows_after_update` and others
pub mod Repair
-- Runs of cells, printed one after another; for `print_run`, `print_cells` and others
pub mod CellRuns
-- The first of some cells that isn't of a run, by a mask with a bit for each; for `run_before`
pub mod RunLanes
-- The columns in which two pictures may differ are copied from one to the other; for `copy_changes`
pub mod Copying
-- The characters of cells, gathered piece by piece; for `append`, `append_characters`, `write_characters`
pub mod Narrowing
-- Strokes that are drawn in any order: what they write is what is wanted; for `draw_stroke`
pub mod DrawnStrokes
-- Cells of one rendition that are printed together: runs, and a few cells between two that are shown already; for `stretch`
pub mod Stretches
-- Strokes are found line by line; for `add_part`, `paint` and others
pub mod FoundStrokes
