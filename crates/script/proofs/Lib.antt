-- a text read a character at a time, for read_text
pub mod TextLemmas
-- a word looked for in its row, for find_named and words_like
pub mod WordLemmas
-- that each word is found, for Word::of and each_word_is_read
pub mod WordLaws
-- digits and their number, for first_digits and next_number
pub mod NumberLemmas
-- the pieces of a line, for split_at_space
pub mod LineLemmas
-- arguments one after another, for take_all and next_argument
pub mod ArgumentLemmas
-- a line gathered a byte at a time, for gather_line
pub mod ByteLemmas
-- the first byte of a kind, for first_newline and first_space
pub mod NewlineLemmas
-- that some byte of a text is bad where not all are printable, for has_bad, and that pieces of it are looked at, for are_printable_by
pub mod BadBytes
