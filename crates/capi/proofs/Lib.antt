-- A handle as a struct of one pointer; for its `of`, `into_nullable_box`
pub mod Handles
-- The same of a handle of keys
pub mod KeyHandles
-- A buffer into which numbers are put one by one; for `put_cells`
pub mod Lines
-- A line of a window has the columns that it says; for `line_of_window`
pub mod Rows
-- No window and no panel has a number past the last that there may be; for `next_window`, `next_panel`
pub mod Numbers
