-- What `show` does with the stream that it reads.
use Rattle.std.specs.Prelude.{◌≡◌, ◌⊎◌, ◌∷◌, ◌++◌}
use Rattle.commands.specs.Names.{[], ℕ, Bool, true, false, not, List, codes, decimal, ⊤, Consumes, IsAtEnd, count_after, Seen, SourceSeen, HasFailed, blank_terminal, IsInProfile, Terminal, newline}
use Rattle.commands.specs.Names.{last_line, Reading, Log}
use Rattle.commands.specs.Printing.{printed_picture}
use Rattle.commands.specs.Written.{Complains, IsNotWritten, IsWritten, Outputs, TriesToLog}
use Rattle.commands.specs.declared.requests.Job.{Job}

-- ---- reading

abbrev pub IsWholeAt : Bool → SourceSeen → Type 0
IsWholeAt true seen = (seen.met_end ≡ true) × IsAtEnd seen.left
IsWholeAt false seen = ⊤

-- The source gave this stream up to its end, after which nothing was read; or it isn't whole, since a read failed.
pub record ReadsStream (old new : SourceSeen) (is_whole : Bool) (stream : List ℕ) : Type 0 where
  pub read : Consumes old.left new.left stream
  pub whole : IsWholeAt is_whole new
  pub failures : new.failures ≡ count_after (not is_whole) old.failures
  pub read_once : old.met_end ≡ false → new.read_past_end ≡ old.read_past_end

-- ---- showing

-- the text of a terminal's picture
abbrev pub terminal_text : Terminal → List ℕ
terminal_text t = printed_picture t.picture t.cursor t.rendition

abbrev pub offset_line : ℕ → List ℕ
offset_line at = codes "offset " ++ decimal at ++ codes ": not in the profile" ++ newline ∷ []

-- The stream is in the profile, from the first terminal to the last. Or it fails, and the log says at which offset;
-- where that can't be written, the status says so.
abbrev pub Judges : List ℕ → Terminal → Terminal → Seen → Seen → ℕ → Type 0
Judges stream first last log log_after status =
    (IsInProfile stream first last × (status ≡ 0) × (log_after ≡ log))
    ⊎ ((at : ℕ) × HasFailed stream first last at
    × (((status ≡ 1) × IsWritten log log_after (offset_line at)) ⊎ ((status ≡ 3) × IsNotWritten log log_after (offset_line at))))

-- Of a stream that isn't whole nothing is printed, and the log gets a line. Else the picture of the last terminal is
-- printed; or writing it failed, and the log gets a line, unless nobody reads the output.
abbrev pub ShowsStream : Bool → List ℕ → Terminal → Terminal → Outputs → Outputs → ℕ → Type 0
ShowsStream false stream first last old new status = (status ≡ 3) × (new.output ≡ old.output) × TriesToLog old.log new.log (last_line Reading)
ShowsStream true stream first last old new status =
    (IsWritten old.output new.output (terminal_text last) × Judges stream first last old.log new.log status)
    ⊎ ((status ≡ 3) × IsNotWritten old.output new.output (terminal_text last) × Complains new.closed old.log new.log (last_line Log))

-- The stream that was read is shown from a blank terminal of the job's size on.
pub record Shows (job : Job) (input rest : SourceSeen) (old new : Outputs) (status : ℕ) : Type 0 where
  pub stream : List ℕ
  pub is_whole : Bool
  pub reads : ReadsStream input rest is_whole stream
  pub last : Terminal
  pub ends : ShowsStream is_whole stream (blank_terminal job.lines job.cols) last old new status
