-- What reading a stream into a terminal does: definitions for the contracts of single steps.
use Rattle.std.specs.Prelude.{◌≡◌, ◌⊎◌}
use Rattle.commands.specs.Names.{ℕ, Bool, List, Option, Some, None, Follows, Reader, NotInProfile, Seen, SourceSeen}
use Rattle.commands.specs.ShowCommand.{ReadsStream, offset_line}
use Rattle.commands.specs.Written.{IsNotWritten, IsWritten}

-- A stream was read, and the terminal has read it.
pub record Feeds (old new : SourceSeen) (before after : Reader) (is_whole : Bool) : Type 0 where
  pub stream : List ℕ
  pub reads : ReadsStream old new is_whole stream
  pub follows : Follows stream before after

-- The log gets a line about the terminal's fault, if it has one.
abbrev pub LogsFault : Option NotInProfile → Seen → Seen → ℕ → Type 0
LogsFault None log log_after status = (status ≡ 0) × (log_after ≡ log)
LogsFault (Some fault) log log_after status =
    ((status ≡ 1) × IsWritten log log_after (offset_line fault.at)) ⊎ ((status ≡ 3) × IsNotWritten log log_after (offset_line fault.at))
