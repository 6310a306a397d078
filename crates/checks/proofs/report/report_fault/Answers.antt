-- `report_fault`: the one line.
use Rattle.std.specs.Prelude.{◌∷◌}
use Rattle.checks.specs.{[], sym}
use Rattle.checks.proofs.report.report_fault.Goals as goal

pub returns : goal.returns
returns g c = (_ ∷ [], rw (sym c.as_slice.ensures.value) at c.finding.ensures, c.report_text.ensures)
