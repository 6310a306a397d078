-- Sources. A source gives a stream of bytes, piece by piece, and counts its failures. This says what has been seen of
-- it so far.
-- No standard says it; the answers are those of Rust's std::io::Read.
use Rattle.std.specs.Prelude.{if◌then◌else◌}
use Rattle.streams.specs.Names.{ℕ, List, Bool, true, Option, Result, Ok, Err}
use Rattle.streams.specs.Counts.{moved_nothing}

-- The bytes that are left, where they are known, whether a read met the end, whether another came after that, how many
-- failures were counted, and after how many reads each further one fails.
pub record SourceSeen : Type 0 where
  pub left : Option (List ℕ)
  pub met_end : Bool
  pub read_past_end : Bool
  pub failures : ℕ
  pub reads_left : ℕ

-- The end is met by a read that gives no byte, for a buffer that has room.
abbrev pub met_end_after_read : {E : Type 0} → Bool → List ℕ → Result ℕ E → Bool
met_end_after_read met buffer (Err e) = met
met_end_after_read met buffer (Ok given) = if moved_nothing given buffer then true else met
