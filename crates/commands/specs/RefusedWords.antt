-- What is shown of words that are refused, by the kind of the error. The kinds and the texts are clap's.
use Rattle.std.specs.Prelude.{◌≡◌, ◌⊎◌}
use Rattle.commands.specs.Names.{ℕ, List, ErrorKind, DisplayHelp, DisplayVersion, OutOfMemory, last_line, Log}
use Rattle.commands.specs.Escapes.{escaped_text}
use Rattle.commands.specs.Statuses.{LacksMemory}
use Rattle.commands.specs.declared.status.Need.TheVariants.{CommandLine, Help, Usage}
use Rattle.commands.specs.Written.{Complains, IsNotWritten, IsWritten, Outputs, TriesToLog}

-- A text was shown: it went to the output; or writing it failed, and the log gets a line, unless nobody reads the output.
abbrev pub ShowsText : List ℕ → Outputs → Outputs → ℕ → Type 0
ShowsText text old new status =
    ((status ≡ 0) × IsWritten old.output new.output text × (new.log ≡ old.log))
    ⊎ ((status ≡ 3) × IsNotWritten old.output new.output text × Complains new.closed old.log new.log (last_line Log))

-- Help was shown, a text of clap's.
abbrev pub ShowsHelp : Outputs → Outputs → ℕ → Type 0
ShowsHelp old new status = (text : List ℕ) × ShowsText text old new status

-- A usage fault goes to the log, as a text of clap's with its bytes escaped, and nothing went to the output.
abbrev pub LogsUsage : Outputs → Outputs → ℕ → Type 0
LogsUsage old new status = (text : List ℕ) × (status ≡ 2) × (new.output ≡ old.output) × TriesToLog old.log new.log (escaped_text text)

-- What is said of an error of that kind. There may be no memory for its text.
abbrev pub Explains : ErrorKind → Outputs → Outputs → ℕ → Type 0
Explains OutOfMemory old new status = LacksMemory CommandLine old new status
Explains DisplayHelp old new status = ShowsHelp old new status ⊎ LacksMemory Help old new status
Explains DisplayVersion old new status = ShowsHelp old new status ⊎ LacksMemory Help old new status
Explains kind old new status = LogsUsage old new status ⊎ LacksMemory Usage old new status
