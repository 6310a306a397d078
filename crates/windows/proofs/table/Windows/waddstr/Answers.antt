-- No character of a printed run is refused.
use Rattle.windows.specs.{arith, and_parts}
use Rattle.windows.proofs.Texts.{none_bad}
use Rattle.windows.proofs.table.Windows.waddstr.Goals as goal

pub returns-then-is_one_run : goal.returns-then-is_one_run
returns-then-is_one_run c = grind (arith, none_bad, and_parts)
