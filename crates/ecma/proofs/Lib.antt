-- Worked streams on a terminal of 4 by 10, for a reader of the definitions
pub mod Examples
-- A fact of each item of a list; for `Beginnings`, `Joining`, `ParameterNumbers` and others
pub mod Each
-- Numbers in parameters, and the codes of a set of attributes; for `Beginnings`, `Lengths`, `Selecting` and others
pub mod ParameterNumbers
-- A cell can hold what is from the space to the tilde; for `Beginnings`, `Unique`
pub mod Printing
-- The spelling of a token is one item, with the token's effect; for `spell`, `spelled_item`
pub mod Tokens
-- Streams one after another, and what a stream that was cut off leads to; for `cut_stream`, `joined_after_breaks`, `joined_streams` and
-- others
pub mod Joining
-- The loop over the attributes; for `append_codes`
pub mod Codes
-- Where tokens lead; for the strokes of `paint` and what a screen of `desk` shows
pub mod Leading
-- A stream is one sequence of items at most, and so is each prefix of it; for `one_row_of_items`
pub mod Unique
-- What a stream reaches, and where it fails; for `one_failure`, `one_terminal_reached`
pub mod Failing
-- No effect changes the size of the picture; for `erase_lines`, `size_stays`
pub mod PictureSizes
-- How many bytes a token has; for `append_colour`, `spell`
pub mod Lengths
-- Pictures that differ in no place are one; for `no_difference`
pub mod Difference
-- Where no item with an effect begins, the stream fails, whatever follows; for `failure_stays`
pub mod Stopping
-- What continues a control sequence, and what doesn't; for `Readers`
pub mod Beginnings
-- Renditions selected by the parameters of a control sequence; for `select_all`, `with_off`, `with_on`
pub mod Selecting
-- Lines of a picture, erased; for `erase_in_line`, `erase_lines`
pub mod Erasing
-- What a reader has after one more byte; for `fault`, `one_terminal_shown`, `read_digit` and others
pub mod Readers
-- The lemmas that are laws as they stand
pub mod LawLemmas
