-- `wdelch`: what a call does to a window of a known state, and the rectangle that it answers (`Calls`).
use Rattle.windows.specs.{refl, sym, ◌∙◌, rules, put, delch_drawing, windows}
use Rattle.windows.proofs.Calls.{call-is, drew}
use Rattle.windows.proofs.Drawings.{character_deleted_frame}
use Rattle.windows.proofs.table.Windows.wdelch.Goals as goal

pub returns : goal.returns
returns c =
    let ws = windows c.args.self.now.table in
    let w = c.args.win.0 in
    drew (search rules) (c.delete_cell.ensures.written ∙ sym (call-is ws w _ c.in_ok-state.ensures.state (λ a. put ws w (delch_drawing ws.window w a)) refl))
    (character_deleted_frame ws w _ c.in_ok-state.ensures.state _ c.lines_from.ensures) (search rules)
