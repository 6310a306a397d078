-- What is said of a file that can't be opened.
use Rattle.std.specs.Prelude.{◌≡◌, ◌∷◌, ◌++◌}
use Rattle.commands.specs.Names.{[], ℕ, List, codes, newline, Seen}
use Rattle.commands.specs.Escapes.{escaped_text}
use Rattle.commands.specs.Statuses.{no_memory_line}
use Rattle.commands.specs.Written.{TriesToLog}
use Rattle.commands.specs.declared.status.Need.TheVariants.{Streams}
use Rattle.commands.specs.declared.opening.OpenFault.{OpenFault}
use Rattle.commands.specs.declared.opening.OpenFault.TheVariants.{Missing, Denied, Folder, InFile, IsRead, NoMemory, Refused}

abbrev pub reason : OpenFault → List ℕ
reason Missing = codes "there is no such file or folder"
reason Denied = codes "permission denied"
reason Folder = codes "it is a folder"
reason InFile = codes "a file is named as a folder"
reason IsRead = codes "it is the file that is read"
reason NoMemory = codes "no memory"
reason Refused = codes "the system refuses it"

-- the line of the log, which names the file, with its bytes escaped
abbrev pub unopened_line : List ℕ → OpenFault → List ℕ
unopened_line name fault = codes "can't open " ++ (escaped_text name ++ (codes ": " ++ (reason fault ++ newline ∷ [])))

-- The log gets a line on a file of that name, by the status.
abbrev pub SaysUnopened : List ℕ → OpenFault → Seen → Seen → ℕ → Type 0
SaysUnopened name NoMemory log log_after status = (status ≡ 4) × TriesToLog log log_after (no_memory_line Streams)
SaysUnopened name fault log log_after status = (status ≡ 3) × TriesToLog log log_after (unopened_line name fault)
