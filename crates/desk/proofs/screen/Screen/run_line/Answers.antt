-- `run_line`: a line that makes no call (`LineEndLemmas`), and one that makes one.
use Rattle.desk.specs.{None, Some, refl, Appends-nil, Text}
use Rattle.desk.proofs.LineEndLemmas.{line_without_call}
use Rattle.desk.proofs.screen.Screen.run_line.Goals as goal

pub returns-in-Ok-None-clause-line : goal.returns-in-Ok-None-clause-line
returns-in-Ok-None-clause-line g c =
    rw c.script_end.ensures (line_without_call g.W.Sink.seen None (rw c.in-Ok-None.field-0-is at c.in-Ok-None.ensures) refl (Appends-nil _) refl)

pub returns-in-Err-clause-line : goal.returns-in-Err-clause-line
returns-in-Err-clause-line g c = rw c.script_end-in-Err.ensures (line_without_call g.W.Sink.seen (Some (Text _ _)) (refl, c.in-Err.ensures, refl) refl (Appends-nil _) refl)
