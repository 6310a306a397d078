-- How a script ends.
use Rattle.std.specs.Prelude.{◌≡◌, ◌⊎◌, ◌<◌, ◌∷◌, ◌++◌}
use Rattle.desk.specs.Names.{ℕ, Bool, true, false, List, [], length, map, take, Option, Some, None, Result, Ok, Err, flat_map, list_any, Appends, Consumes, IsAtEnd, Keeps, Seen, count_after}
use Rattle.desk.specs.Names.{next_count, WriteFault, SourceSeen, reading, log_line, Call, Refresh, Doupdate, TextFault, ScriptEnd, ScriptFault, Text, Reading as Reading_fault, Write, Log}
use Rattle.desk.specs.Runs.{Outcome, is_refused}
use Rattle.desk.specs.Ends.{IsCut, Makes}
use Rattle.desk.specs.Showing.{RunShows}
use Rattle.script.specs.Readings.{Reading}
use Rattle.desk.specs.States.{ScreenOver}

abbrev pub read_failed : Option ScriptFault → Bool
read_failed (Some Reading_fault) = true
read_failed _ = false

-- the fault of the doupdate that ended it
abbrev pub write_fault : Option ScriptFault → Option WriteFault
write_fault (Some (Write line fault)) = Some fault
write_fault _ = None

abbrev pub log_failed : Option ScriptFault → Bool
log_failed (Some Log) = true
log_failed _ = false

-- More bytes may come, unless the end was reached.
abbrev pub MayFollow : Bool → List ℕ → Type 0
MayFollow met_end more = met_end ≡ true → more ≡ []

-- However a script goes on after these bytes, it says this.
abbrev pub SaysHowever : Bool → List ℕ → (Reading → Type 0) → Type 0
SaysHowever met_end text P = (more : List ℕ) → MayFollow met_end more → P (reading false (text ++ more))

-- the first calls of a reading
abbrev pub BeginsWith : List (ℕ × Call) → Reading → Type 0
BeginsWith calls r = (others : List (ℕ × Call)) × (r.calls ≡ calls ++ others)

-- ---- the log

-- the lines of the log for calls with these outcomes, one for each; it is empty for a call that logs nothing
abbrev pub log_lines : List (ℕ × Call) → List Outcome → List (List ℕ)
log_lines (call ∷ calls) (outcome ∷ outcomes) = log_line call.0 outcome.answer ∷ log_lines calls outcomes
log_lines _ _ = []

abbrev pub log_text : List (List ℕ) → List ℕ
log_text = flat_map (λ line. line)

-- The log took all lines but the last whole, and of that a prefix, not all.
pub record IsCutInLastLine (old new : Seen) (lines : List (List ℕ)) : Type 0 where
  pub whole : List (List ℕ)
  pub last : List ℕ
  pub parts : lines ≡ whole ++ last ∷ []
  pub sent : ℕ
  pub within : sent < length last
  pub taken : Appends old.taken new.taken (log_text whole ++ take sent last)

-- The log took the lines, but where a write of it failed in the last.
abbrev pub Logs : Seen → Seen → List (List ℕ) → Option ScriptFault → Type 0
Logs old new lines (Some Log) = IsCutInLastLine old new lines
Logs old new lines _ = Appends old.taken new.taken (log_text lines)

-- No failure was counted, and the one flush that was tried succeeded.
pub record FlushSucceeds (old new : Seen) : Type 0 where
  pub kept : Keeps old.taken new.taken
  pub no_failure : new.failures ≡ old.failures
  pub flushes : new.flushes ≡ next_count old.flushes
  pub flushed : new.flushed ≡ true

-- The one flush that was tried failed.
pub record FlushFails (old new : Seen) : Type 0 where
  pub kept : Keeps old.taken new.taken
  pub failure : new.failures ≡ next_count old.failures
  pub flushes : new.flushes ≡ next_count old.flushes

-- How a script ends whose lines ended with this fault, or none: the log is flushed once, unless a write of it failed. A
-- flush that fails is a fault where there was none.
abbrev pub LogCloses : Option ScriptFault → Seen → Seen → Option ScriptFault → Type 0
LogCloses None logged written fault = (FlushSucceeds logged written × (fault ≡ None)) ⊎ (FlushFails logged written × (fault ≡ Some Log))
LogCloses (Some Log) logged written fault = (written ≡ logged) × (fault ≡ Some Log)
LogCloses (Some earlier) logged written fault = (FlushSucceeds logged written ⊎ FlushFails logged written) × (fault ≡ Some earlier)

-- ---- its lines

-- the call of a line, with its number
abbrev pub numbered_call : ℕ → Option Call → List (ℕ × Call)
numbered_call number None = []
numbered_call number (Some call) = (number, call) ∷ []

abbrev pub calls_of : List (ℕ × Call) → List Call
calls_of = map (λ call. call.1)

-- What the line of this number said: the call that was made, if it says one. Where the script ended there by a fault of
-- the line, or by a doupdate whose text was cut short, no call of it was made.
abbrev pub LineSays : ℕ → Result (Option Call) TextFault → Option Call → Option ScriptFault → Type 0
LineSays number said call (Some (Text line fault)) = (line ≡ number) × (said ≡ Err fault) × (call ≡ None)
LineSays number said call (Some Reading_fault) = ⊥
LineSays number said call (Some (Write line fault)) = (line ≡ number) × (said ≡ Ok (Some (Refresh Doupdate))) × (call ≡ None)
LineSays number said call _ = said ≡ Ok call

-- What the bytes that were read of a script say: the calls that were made, and after them why it ended.
abbrev pub ScriptSays : Bool → List ℕ → List (ℕ × Call) → Option ScriptFault → Type 0
-- The bytes are all of it, and each call was made.
ScriptSays met_end text made None = (met_end ≡ true) × (reading false text ≡ record { calls = made; fault = None })
-- It has this fault.
ScriptSays met_end text made (Some (Text line fault)) = SaysHowever met_end text (λ r. r ≡ record { calls = made; fault = Some (Text line fault) })
-- A read failed after the bytes.
ScriptSays met_end text made (Some Reading_fault) = reading true text ≡ record { calls = made; fault = Some Reading_fault }
-- The next call is a doupdate.
ScriptSays met_end text made (Some (Write line fault)) = SaysHowever met_end text (BeginsWith (made ++ (line, Refresh Doupdate) ∷ []))
-- More calls may follow.
ScriptSays met_end text made (Some Log) = SaysHowever met_end text (BeginsWith made)

module _ {W : Type 0} (seen : W → Seen) where
  -- The screen is as the calls left it that were made; or a doupdate's text was cut short after them.
  abbrev pub StopsAt : ScreenOver W → Option ScriptFault → ScreenOver W → Type 0
  StopsAt at_stop (Some (Write line fault)) new = IsCut seen at_stop new fault
  StopsAt at_stop _ new = new ≡ at_stop

  -- A line that says this was run and logged.
  pub record LineEnds (old new : ScreenOver W) (number : ℕ) (said : Result (Option Call) TextFault) (log written : Seen) (end : ScriptEnd) : Type 0 where
    pub call : Option Call
    pub outcomes : List Outcome
    pub at_stop : ScreenOver W
    pub makes : Makes seen old (calls_of (numbered_call number call)) outcomes at_stop
    pub says : LineSays number said call end.fault
    pub stop : StopsAt at_stop end.fault new
    pub logs : Logs log written (log_lines (numbered_call number call) outcomes) end.fault
    pub failures : written.failures ≡ count_after (log_failed end.fault) log.failures
    pub flushes : written.flushes ≡ log.flushes
    pub refused : end.refused ≡ list_any is_refused outcomes

  -- The lines of a script, read from a source, were run on a screen and logged. The log was not flushed yet. Where the
  -- end of the source was met, no read came after it.
  pub record RunsLines (old new : ScreenOver W) (input rest : SourceSeen) (log written : Seen) (end : ScriptEnd) : Type 0 where
    pub text : List ℕ
    pub made : List (ℕ × Call)
    pub outcomes : List Outcome
    pub at_stop : ScreenOver W
    pub read : Consumes input.left rest.left text
    pub makes : Makes seen old (calls_of made) outcomes at_stop
    pub says : ScriptSays rest.met_end text made end.fault
    pub stop : StopsAt at_stop end.fault new
    pub logs : Logs log written (log_lines made outcomes) end.fault
    pub failures : written.failures ≡ count_after (log_failed end.fault) log.failures
    pub flushes : written.flushes ≡ log.flushes
    pub refused : end.refused ≡ list_any is_refused outcomes
    -- Without a fault the source has no byte left.
    pub at_end : end.fault ≡ None → IsAtEnd rest.left
    pub read_once : input.met_end ≡ false → rest.read_past_end ≡ input.read_past_end

  -- A script ended so: its lines ended, then the log was flushed. What the writer took shows the world after its calls.
  pub record ScriptEnds (old new : ScreenOver W) (input rest : SourceSeen) (log written : Seen) (end : ScriptEnd) : Type 0 where
    pub ended : ScriptEnd
    pub logged : Seen
    pub lines : RunsLines old new input rest log logged ended
    pub closes : LogCloses ended.fault logged written end.fault
    pub refused : end.refused ≡ ended.refused
    pub shown : RunShows seen old new (calls_of lines.made) (write_fault end.fault)
