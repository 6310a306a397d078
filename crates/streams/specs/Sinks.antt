-- Sinks. A sink takes a stream of bytes, piece by piece, and counts its failures. This says what has been seen of it so
-- far.
-- No standard says it; the answers are those of Rust's std::io::Write.
use Rattle.std.specs.Prelude.{if◌then◌else◌, ◌==◌}
use Rattle.streams.specs.Names.{None, ℕ, List, length, Option, Result, Ok, Err, Bool, true, false}
use Rattle.streams.specs.Counts.{moved_nothing}

-- The bytes that it took so far, where they are known, how many failures it counted, how many writes took all of their
-- piece, how many flushes were tried, and whether one succeeded after the last byte.
pub record Seen : Type 0 where
  pub taken : Option (List ℕ)
  pub failures : ℕ
  pub whole_writes : ℕ
  pub flushes : ℕ
  pub flushed : Bool

-- of a sink that keeps nothing, before its first call
abbrev pub nothing_seen : Seen
nothing_seen = record { taken = None; failures = 0; whole_writes = 0; flushes = 0; flushed = false }

-- An error is a failure of a write, and so is an answer of 0 for a piece that isn't empty.
abbrev pub write_fails : {E : Type 0} → List ℕ → Result ℕ E → Bool
write_fails piece (Err e) = true
write_fails piece (Ok taken) = moved_nothing taken piece

-- a write took all of its piece
abbrev pub write_is_whole : {E : Type 0} → List ℕ → Result ℕ E → Bool
write_is_whole piece (Err e) = false
write_is_whole piece (Ok taken) = taken == length piece

-- A flush doesn't last over a byte that is taken.
abbrev pub flushed_after_write : {E : Type 0} → Bool → Result ℕ E → Bool
flushed_after_write flushed (Err e) = flushed
flushed_after_write flushed (Ok taken) = if taken == 0 then flushed else false

abbrev pub flushed_after_flush : {T E : Type 0} → Bool → Result T E → Bool
flushed_after_flush flushed (Err e) = flushed
flushed_after_flush flushed (Ok x) = true
