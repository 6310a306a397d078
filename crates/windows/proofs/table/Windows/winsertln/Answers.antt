-- The lines from the cursor's on move down by one.
use Rattle.windows.specs.{rules}
use Rattle.windows.proofs.Drawings.{line_inserted, line_inserted_frame}
use Rattle.windows.proofs.Calls.{drew}
use Rattle.windows.proofs.table.Windows.winsertln.Goals as goal

pub returns : goal.returns
returns c =
    drew (search rules) (line_inserted _ _ _ c.in_ok-state.ensures.state _ c.move_down.ensures.written) (line_inserted_frame _ _ _ c.in_ok-state.ensures.state _ c.lines_from.ensures) (search rules)
