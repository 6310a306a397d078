-- The machine values of a `RawBox`; for `into_box`, `of`
pub mod Values
-- Structs of one pointer that may be null: their machine values, and what they own; for `NullableBox`, and each handle
pub mod Pointers
-- How one such struct is made of another; for both functions that a handle has of its own
pub mod Moving
