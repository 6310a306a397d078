-- No byte is lost, and each sequence is one; for `laws`
pub mod Sequences
-- What one more event adds to a reading, for `byte`, `bytes` and `delay`; what is read of a whole sequence; the laws
pub mod Readings
-- How a pasted text ends; for `pastes_end_so`
pub mod Pastes
-- The bytes of each character are its key, and no others are; for `laws`
pub mod Characters
-- Control sequences whose parameters are numbers in decimal digits; for `laws`
pub mod Numbers
-- What begins with an escape is read whatever was pending before it; for `laws`
pub mod Resuming
