-- What sending a text does to a sink.
-- No standard says it; the answers are those of Rust's std::io::Write.
use Rattle.std.specs.Prelude.{◌≡◌, ◌+◌, ◌<◌, ◌≤◌, ◌%◌, ◌^◌}
use Rattle.streams.specs.Names.{ℕ, List, length, take, Result, Ok, Err, Appends}
use Rattle.streams.specs.declared.sending.WriteFault.{WriteFault}
use Rattle.streams.specs.Counts.{next_count}
use Rattle.streams.specs.Sinks.{Seen}

-- At Ok, with the number of all bytes, the sink took the text; at Err it took a prefix of it, not all, and counted one
-- failure.
abbrev pub SendingEnds : Seen → Seen → ℕ → List ℕ → Result ℕ WriteFault → Type 0
SendingEnds old new sent text (Ok total) = (total ≡ sent + length text) × Appends old.taken new.taken text × (new.failures ≡ old.failures)
SendingEnds old new sent text (Err fault) =
    (taken : ℕ) × (taken < length text) × (fault.sent ≡ sent + taken) × Appends old.taken new.taken (take taken text) × (new.failures ≡ next_count old.failures)

-- At most one write took all of its piece: a piece is sent at once, where no write is short.
pub record WritesOnce (old new : Seen) : Type 0 where
  pub writes : ℕ
  pub few : writes ≤ 1
  pub count : new.whole_writes % 2 ^ 64 ≡ (old.whole_writes + writes) % 2 ^ 64

-- after `sent` bytes a text was sent, and nothing was flushed
pub record Sends (old new : Seen) (sent : ℕ) (text : List ℕ) (result : Result ℕ WriteFault) : Type 0 where
  pub ends : SendingEnds old new sent text result
  pub flushes : new.flushes ≡ old.flushes
