-- The lines that have columns, one after another, for `clear`; and a rectangle line by line, for `widen_lines`, `join_lines`
pub mod Lines
-- Pictures that are changed where columns are added, for what writes them
pub mod Changing
