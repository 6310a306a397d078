-- The rest of the cursor's line is cleared.
use Rattle.windows.specs.{rules}
use Rattle.windows.proofs.Drawings.{clrtoeol_frame-is}
use Rattle.windows.proofs.Calls.{drew}
use Rattle.windows.proofs.table.Windows.wclrtoeol.Goals as goal

pub returns : goal.returns
returns c = drew (search rules) (search rules) (clrtoeol_frame-is _ _ _ c.in_ok-state.ensures.state _ c.lines_from.ensures) (search rules)
