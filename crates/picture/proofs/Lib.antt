-- places that a window's rectangle holds, for cell_found and compose_row
pub mod Held
-- where a window is, for shared_part
pub mod Placement
-- the part of the screen that shows cells of another window, for shared_part
pub mod PartLaws
-- that a visible panel is there, for is_visible
pub mod VisiblePanels
-- that the standard screen holds each place, for cell_found and show_damaged
pub mod Standard
-- the search along a line, for owner_span and cell_found
pub mod Searching
-- a line made run by run, for compose_row
pub mod PictureRuns
-- panels laid from the top down, for Owners::find
pub mod OwnerLaws
-- spans of a line after a panel is laid over it, for Spans::lay and Spans::at
pub mod SpanLaws
-- a picture made line by line, for show_damaged and compose_row
pub mod Lines
-- a piece of a row, for piece
pub mod RowPieces
-- what steps do to the damage, for compose's calls
pub mod DamageLaws
-- damaged lines composed one by one, for show_damaged
pub mod Composing
