-- `fill`: given cells leave a screen (`StateLemmas`).
use Rattle.desk.specs.{fill_edit, fill_tests, world}
use Rattle.desk.proofs.StateLemmas.{screen-given, size-given}
use Rattle.desk.proofs.screen.Screen.fill.Goals as goal

pub invariant_of-self : goal.invariant_of-self
invariant_of-self g c =
    let a = c.args in
    let d = c.self.inside.desk in
    screen-given d c.fill.new.self (fill_tests (world d).windows a.win.0 a.rect a.cell) (fill_edit a.win.0 a.rect a.cell) c.fill.result c.self.inside.painter c.fill.ensures c.self.invariant

pub returns-clause-size : goal.returns-clause-size
returns-clause-size g c =
    let a = c.args in
    let d = c.self.inside.desk in
    rw (← c.self.view_is) (size-given d c.fill.new.self (fill_tests (world d).windows a.win.0 a.rect a.cell) (fill_edit a.win.0 a.rect a.cell) c.fill.result c.fill.ensures)
