-- `winsch`: what a call does to a window of a known state, and the rectangle that it answers (`Calls`).
use Rattle.windows.specs.{refl, sym, ◌∙◌, rules, put, insch_drawing, windows}
use Rattle.windows.proofs.Calls.{call-is, drew}
use Rattle.windows.proofs.Drawings.{character_inserted_frame}
use Rattle.windows.proofs.table.Windows.winsch.Goals as goal

pub returns : goal.returns
returns c =
    let ws = windows c.args.self.now.table in
    let w = c.args.win.0 in
    drew (search rules)
    ((rw c.written_cell-cell.ensures at c.insert_cell.ensures.written) ∙ sym (call-is ws w _ c.in_ok-state.ensures.state (λ a. put ws w (insch_drawing ws.window w c.args.ch a)) refl))
    (character_inserted_frame ws w _ c.in_ok-state.ensures.state _ c.args.ch c.lines_from.ensures) (search rules)
