-- What is said of an error, by its kind.
use Rattle.std.specs.Prelude.{◌≡◌, ◌≢◌, ◌⊎◌}
use Rattle.commands.specs.{ℕ, false, arith, the_type, ErrorKind, DisplayHelp, DisplayVersion, OutOfMemory, Explains, LogsUsage, ShowsHelp, LacksMemory, Outputs}
use denote.Enum.Bare.{sameb}
use Rattle.commands.specs.declared.status.Need.TheVariants.{Help, Usage}

pub mistake_told : (kind : ErrorKind) (old new : Outputs) (status : ℕ) → false ≡ sameb the_type kind OutOfMemory → (kind ≢ DisplayHelp) × (kind ≢ DisplayVersion)
    → LogsUsage old new status ⊎ LacksMemory Usage old new status → Explains kind old new status
mistake_told kind old new status other is h = grind arith

pub help_told : (kind : ErrorKind) (old new : Outputs) (status : ℕ) → false ≡ sameb the_type kind OutOfMemory → ((kind ≢ DisplayHelp) × (kind ≢ DisplayVersion) → ⊥)
    → ShowsHelp old new status ⊎ LacksMemory Help old new status → Explains kind old new status
help_told kind old new status other is h = grind arith
