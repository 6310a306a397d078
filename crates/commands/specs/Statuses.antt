-- The exit statuses of the program, and that there is no memory.
use Rattle.std.specs.Prelude.{◌≡◌, ◌∷◌, ◌++◌, if◌then◌else◌}
use Rattle.commands.specs.Names.{[], ℕ, Bool, List, codes, option_map_or, Seen, newline, last_line, ScriptEnd, ScriptFault, Reading, Write, Log}
use Rattle.script.specs.declared.fault.ScriptFault.TheVariants.{Text}
use Rattle.commands.specs.Written.{Complains, Outputs, TriesToLog}
use Rattle.commands.specs.declared.status.Need.{Need}
use Rattle.commands.specs.declared.status.Need.TheVariants.{CommandLine, Help, Usage, Streams, Screen}

-- 2 for a fault of the text, 3 where reading or writing failed
abbrev pub status_of_fault : ScriptFault → ℕ
status_of_fault (Text line fault) = 2
status_of_fault Reading = 3
status_of_fault (Write line fault) = 3
status_of_fault Log = 3

-- 1 where some call was refused, 0 where each was accepted
abbrev pub status_of : ScriptEnd → ℕ
status_of end = option_map_or status_of_fault end.fault (if end.refused then 1 else 0)

-- The log gets a line about a fault that ended a script, but none of a failed write where nobody reads the output.
abbrev pub SaysFault : Bool → ScriptFault → Seen → Seen → Type 0
SaysFault closed (Write line fault) log log_after = Complains closed log log_after (last_line (Write line fault))
SaysFault closed fault log log_after = TriesToLog log log_after (last_line fault)

-- ---- lack of memory

-- what the memory was for
abbrev pub need_text : Need → List ℕ
need_text CommandLine = codes "the command line"
need_text Help = codes "the help text"
need_text Usage = codes "the fault of the command line"
need_text Streams = codes "the streams"
need_text Screen = codes "the screen"

abbrev pub no_memory_line : Need → List ℕ
no_memory_line need = codes "no memory for " ++ need_text need ++ newline ∷ []

-- The log gets the line that says what for, and nothing went to the output.
pub record LacksMemory (need : Need) (old new : Outputs) (status : ℕ) : Type 0 where
  pub status_is : status ≡ 4
  pub output : new.output ≡ old.output
  pub logs : TriesToLog old.log new.log (no_memory_line need)
