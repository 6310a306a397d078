-- `log_unopened`: any fault but one has a line with the file's name.
use Rattle.std.specs.Prelude.{◌≡◌}
use Rattle.commands.specs.{Bool, List, ℕ, false, inl, inr, refl, true, Seen, SaysUnopened, unopened_line, WritingEnds, TriesToLog}
use Rattle.commands.specs.declared.opening.OpenFault.{OpenFault}
use Rattle.commands.specs.declared.opening.OpenFault.TheVariants.{Denied, Folder, InFile, IsRead, Missing, NoMemory, Refused}
use Rattle.commands.proofs.opening.log_unopened.Goals as goal

tried : (b : Bool) (log after : Seen) (line : List ℕ) → WritingEnds b log after line → TriesToLog log after line
tried true log after line h = inl h
tried false log after line h = inr h

named : (name : List ℕ) (fault : OpenFault) (log after : Seen) → (fault ≡ NoMemory → ⊥) → TriesToLog log after (unopened_line name fault) → SaysUnopened name fault log after 3
named name Missing log after other line = (refl, line)
named name Denied log after other line = (refl, line)
named name Folder log after other line = (refl, line)
named name InFile log after other line = (refl, line)
named name IsRead log after other line = (refl, line)
named name NoMemory log after other line = absurd (other refl)
named name Refused log after other line = (refl, line)

pub returns-in_default : goal.returns-in_default
returns-in_default g c =
    named c.args.name.now c.args.fault _ _ c.in_default.not-NoMemory (tried _ _ _ (unopened_line c.args.name.now c.args.fault) c.write_unopened.ensures)
