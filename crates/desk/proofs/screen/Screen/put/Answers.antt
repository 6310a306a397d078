-- `put`: given cells leave a screen (`StateLemmas`).
use Rattle.desk.specs.{put_edit, put_tests, world}
use Rattle.desk.proofs.StateLemmas.{screen-given, size-given}
use Rattle.desk.proofs.screen.Screen.put.Goals as goal

pub invariant_of-self : goal.invariant_of-self
invariant_of-self g c =
    let a = c.args in
    let d = c.self.inside.desk in
    screen-given d c.put.new.self (put_tests (world d).windows a.win.0 a.y a.x a.cells.now) (put_edit a.win.0 a.y a.x a.cells.now) c.put.result c.self.inside.painter c.put.ensures c.self.invariant

pub returns-clause-size : goal.returns-clause-size
returns-clause-size g c =
    let a = c.args in
    let d = c.self.inside.desk in
    rw (← c.self.view_is) (size-given d c.put.new.self (put_tests (world d).windows a.win.0 a.y a.x a.cells.now) (put_edit a.win.0 a.y a.x a.cells.now) c.put.result c.put.ensures)
