-- A set after a number was added or removed, and the least number from one on; for `insert_bits`, `remove`, `next`
pub mod Words
