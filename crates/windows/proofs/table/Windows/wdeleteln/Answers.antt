-- The lines from the cursor's on move up by one.
use Rattle.windows.specs.{rules}
use Rattle.windows.proofs.Drawings.{line_deleted, line_deleted_frame}
use Rattle.windows.proofs.Calls.{drew}
use Rattle.windows.proofs.table.Windows.wdeleteln.Goals as goal

pub returns : goal.returns
returns c =
    drew (search rules) (line_deleted _ _ _ c.in_ok-state.ensures.state _ c.move_up.ensures.written) (line_deleted_frame _ _ _ c.in_ok-state.ensures.state _ c.lines_from.ensures) (search rules)
