-- Every line is cleared, and the cursor is at home.
use Rattle.windows.specs.{rules}
use Rattle.windows.proofs.Drawings.{erased, erased_frame}
use Rattle.windows.proofs.Calls.{drew}
use Rattle.windows.proofs.table.Windows.werase.Goals as goal

pub returns : goal.returns
returns c =
    drew (search rules) (erased _ _ _ c.in_ok-state.ensures.state _ _ c.clear_all.ensures.written c.set_cursor.ensures.set)
    (erased_frame _ _ _ c.in_ok-state.ensures.state _ c.lines_from.ensures) (search rules)
