-- The lines below are cleared, and with them the rest of the cursor's line.
use Rattle.windows.specs.{arith, rules}
use Rattle.windows.proofs.Drawings.{clrtobot_frame-last, clrtobot_frame-more}
use Rattle.windows.proofs.Calls.{drew}
use Rattle.windows.proofs.table.Windows.wclrtobot.Goals as goal

pub returns-then-y-state : goal.returns-then-y-state
returns-then-y-state c =
    drew (search rules) (search rules) (clrtobot_frame-last _ _ _ c.in_ok-state.ensures.state _ c.if-y-state.true c.lines_from.ensures) (search rules)

pub returns-else-y-state : goal.returns-else-y-state
returns-else-y-state c =
    let h = c.in_ok-state.ensures.state in
    drew (search rules) (search rules)
    (clrtobot_frame-more _ _ _ h _ (omega (arith, h.within.cursor_line)) c.lines_from-else-y-state.ensures) (search rules)
