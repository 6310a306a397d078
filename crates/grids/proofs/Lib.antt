-- the cells of a slot, for Slot::with_grid, fill, put_row, copy_block and row
pub mod NewSlots
-- that the way to the grid ends, for first_place and all that walks it
pub mod Chain
-- that a longer walk leads to the same place, for origin_of
pub mod LongerWalks
-- where the first place of a window leads, for origin_of and settle
pub mod Origins
-- which slots are chained after one changed, for settle
pub mod OneSlot
-- the origins set one by one, for settle
pub mod Settling
-- the search for a number, for free_number
pub mod FreeNumbers
-- a test of each slot, for has_derived and is_touched
pub mod Derived
-- that lines of which none is touched are found so, and what lines are that are changed together, for TouchedLines
pub mod Untouched
-- characters printed after others, for print_in
pub mod Prints
-- one slot changed, for set_settings, mvwin, fill, mark and unmark
pub mod Changes
-- that windows are sound
pub mod Sounds
-- that a row or a block is one write, for fill, copy_cells and copy_block
pub mod Writes
-- a window shifted in its parent, for mvderwin
pub mod Shifts
-- a window deleted, for delwin
pub mod Deletion
-- a window added, for newwin, newpad and derive
pub mod NewWindows
-- the cells that a window shows, for cell and row
pub mod Showing
-- copies, for copy_rectangle and what it calls
pub mod Copies
-- a window touched line by line, for touch_shown
pub mod Touches
-- the ancestors of a window, for derives, hand_up and take_down
pub mod Ancestors
-- what is passed on from parent to parent, for hand_up and take_down
pub mod Syncs
-- the places that two windows share, for seen_in
pub mod Shared
-- that they are a rectangle, for seen_in
pub mod Seen
-- a block of cells copied within a grid, for copy_block
pub mod Blocks
