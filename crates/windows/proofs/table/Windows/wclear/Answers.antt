-- The window is erased, and its settings have the flag.
use Rattle.windows.specs.{rules, ◌∙◌, after_clear}
use Rattle.windows.proofs.Drawings.{cleared-is, erased_frame}
use Rattle.windows.proofs.Calls.{drew}
use Rattle.windows.proofs.States.{set-known}
use Rattle.windows.proofs.table.Windows.wclear.Goals as goal

pub returns : goal.returns
returns c =
    drew (search rules)
    (cleared-is _ _ _ c.in_ok-state.ensures.state _ _ c.clear_all.ensures.written (c.set_settings.ensures.set ∙ set-known _ c.args.win.0 _ after_clear c.clear_all.ensures.state))
    (erased_frame _ _ _ c.in_ok-state.ensures.state _ c.lines_from-frame.ensures) (search rules)
