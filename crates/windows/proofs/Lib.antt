-- what a window of a known state keeps, for state_of and what writes a line
pub mod States
-- a write, two that are one, and none, for the drawings
pub mod NextWrites
-- what calls do to a window of a known state, for the calls that edit and the copies
pub mod Calls
-- each drawing: its rectangle, its writes, and what the call that draws it does and answers
pub mod Drawings
-- given cells, for fill and put
pub mod GivenCells
-- one character, for waddch and type_first
pub mod Typing
-- one character after another, and that printed ones are accepted, for type_text and has_bad_character
pub mod Texts
-- the rectangle of several characters, for type_first and type_text
pub mod TextFrames
-- a run of characters that stay inside a line is one drawing, for type_text
pub mod CharacterRuns
-- the lines of a region, for scroll
pub mod Scrolls
-- two small windows worked out, for a reader of the definitions
pub mod Examples
-- the places that two windows cover, for copy_common
pub mod CommonParts
