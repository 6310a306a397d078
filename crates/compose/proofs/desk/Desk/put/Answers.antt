-- `put`: given cells leave a desk (`GivenCells`).
use Rattle.compose.specs.{Ok, CellsGiven, DeskTable, IsDesk, put_edit, put_tests, windows}
use Rattle.compose.specs.contracts.desk.Desk.{the_view}
use Rattle.world.proofs.FitsCalls.{fits-put}
use Rattle.compose.proofs.GivenCells.{given-accepted}
use Rattle.compose.proofs.desk.Desk.put.Goals as goal

abbrev new : goal.In_ok-put_damaging → DeskTable
new c = record (the_view c.self.inside) { windows = c.put_damaging.new.windows.table; damage = c.put_damaging.new.damage }

made : (c : goal.In_ok-put_damaging) → IsDesk (new c)
    × CellsGiven (the_view c.self.inside) (put_tests (windows (the_view c.self.inside).windows) c.args.win.0 c.args.y c.args.x c.args.cells.now) (put_edit c.args.win.0 c.args.y c.args.x c.args.cells.now) (Ok tt) (new c)
made c =
    let a = c.args in
    let d = the_view c.self.inside in
    let m = c.put_damaging in
    given-accepted d m.new.windows.table m.new.damage (put_edit a.win.0 a.y a.x a.cells.now) c.self.invariant (fits-put (windows d.windows) a.win.0 a.y a.x a.cells.now)
    (put_tests (windows d.windows) a.win.0 a.y a.x a.cells.now) c.in_ok-put_damaging.field-0 tt c.in_ok-put_damaging.ensures

pub invariant_of-self-2 : goal.invariant_of-self-2
invariant_of-self-2 c = (made c).0

pub returns : goal.returns
returns c = rw (← c.self.view_is) (made c).1
