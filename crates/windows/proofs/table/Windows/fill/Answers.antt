-- The rectangle is one drawing.
use Rattle.windows.specs.{ap, arith, rules, sym, ◌∙◌, given_cell, put, rectangle_filled, windows}
use Rattle.windows.proofs.Calls.{drawn-there, drew}
use Rattle.windows.proofs.GivenCells.{filled-frame}
use Rattle.windows.proofs.table.Windows.fill.Goals as goal

pub returns : goal.returns
returns c =
    let a = c.args in
    let s = c.in_ok-state.ensures.state in
    let old = windows a.self.now.table in
    let cell = given_cell a.number in
    drew (search rules)
    (c.fill_rectangle.ensures.written ∙ ap (λ g. put old a.win.0 (rectangle_filled a.rect g)) c.of_number.ensures.value
    ∙ sym (drawn-there old a.win.0 s.window (rectangle_filled a.rect cell) s.there))
    (filled-frame old a.win.0 c.in_ok-state.state s a.rect cell (omega (arith, c.if-rect.false)) (omega (arith, c.if-rect-state.false)) (omega (arith, c.if-rect-2.false))
    (omega (arith, c.if-rect-state-2.false)))
    c.fill_rectangle.ensures.sound
