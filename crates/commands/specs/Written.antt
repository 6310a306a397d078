-- What writing a text of any length does to a sink.
-- No standard says it; the answers are those of Rust's std::io::Write.
use Rattle.std.specs.Prelude.{◌≡◌, ◌⊎◌, ◌<◌, ◌≤◌, ◌==◌, ℕ, List, length, take, Bool, true, false, not}
use Rattle.std.specs.Io.KnownBytes.{Appends}
use Rattle.streams.specs.Counts.{count_after, next_count}
use Rattle.streams.specs.Sinks.{Seen}

-- The sink took a prefix of the text, and not all.
pub record TakesPrefix (old new : Seen) (text : List ℕ) : Type 0 where
  pub sent : ℕ
  pub within : sent < length text
  pub taken : Appends old.taken new.taken (take sent text)

-- Some bytes were written, all of them or, where a write failed, a prefix of them. Nothing was flushed.
pub record PuttingEnds (written : Bool) (old new : Seen) (bytes : List ℕ) : Type 0 where
  pub taken : written ≡ true → Appends old.taken new.taken bytes
  pub cut : written ≡ false → TakesPrefix old new bytes
  pub flushes : new.flushes ≡ old.flushes
  pub failures : new.failures ≡ count_after (not written) old.failures

-- The sink took the text, all of it, and the one flush that was tried succeeded after it. No failure was counted.
pub record IsWritten (old new : Seen) (text : List ℕ) : Type 0 where
  pub taken : Appends old.taken new.taken text
  pub no_failure : new.failures ≡ old.failures
  pub flushes : new.flushes ≡ next_count old.flushes
  pub flushed : new.flushed ≡ true

-- The sink took a prefix of the text, and a write failed; or all, and the one flush failed. One failure was counted.
pub record IsNotWritten (old new : Seen) (text : List ℕ) : Type 0 where
  pub sent : ℕ
  pub within : sent ≤ length text
  pub taken : Appends old.taken new.taken (take sent text)
  pub failure : new.failures ≡ next_count old.failures
  pub flushes : new.flushes ≡ count_after (sent == length text) old.flushes

-- The text was written, or wasn't.
abbrev pub WritingEnds : Bool → Seen → Seen → List ℕ → Type 0
WritingEnds true old new text = IsWritten old new text
WritingEnds false old new text = IsNotWritten old new text

-- A line was written on the log, once, or a failure was counted.
abbrev pub TriesToLog : Seen → Seen → List ℕ → Type 0
TriesToLog log log_after line = IsWritten log log_after line ⊎ IsNotWritten log log_after line

-- The same of a line about the output, but where nobody reads that nothing is done: who closed it wants no complaint.
abbrev pub Complains : Bool → Seen → Seen → List ℕ → Type 0
Complains true log log_after line = log_after ≡ log
Complains false log log_after line = TriesToLog log log_after line

-- ---- the output and the log

-- what has been seen of the output and of the log, and whether nobody reads the output
pub record Outputs : Type 0 where
  pub output : Seen
  pub closed : Bool
  pub log : Seen

abbrev pub outputs : Seen → Bool → Seen → Outputs
outputs output closed log = record { output = output; closed = closed; log = log }
