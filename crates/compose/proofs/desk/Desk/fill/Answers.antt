-- `fill`: given cells leave a desk (`GivenCells`).
use Rattle.compose.specs.{Ok, CellsGiven, DeskTable, IsDesk, fill_edit, fill_tests, windows}
use Rattle.compose.specs.contracts.desk.Desk.{the_view}
use Rattle.world.proofs.FitsCalls.{fits-fill}
use Rattle.compose.proofs.GivenCells.{given-accepted}
use Rattle.compose.proofs.desk.Desk.fill.Goals as goal

abbrev new : goal.In_ok-fill_damaging → DeskTable
new c = record (the_view c.self.inside) { windows = c.fill_damaging.new.windows.table; damage = c.fill_damaging.new.damage }

made : (c : goal.In_ok-fill_damaging) → IsDesk (new c)
    × CellsGiven (the_view c.self.inside) (fill_tests (windows (the_view c.self.inside).windows) c.args.win.0 c.args.rect c.args.cell) (fill_edit c.args.win.0 c.args.rect c.args.cell) (Ok tt) (new c)
made c =
    let a = c.args in
    let d = the_view c.self.inside in
    let m = c.fill_damaging in
    given-accepted d m.new.windows.table m.new.damage (fill_edit a.win.0 a.rect a.cell) c.self.invariant (fits-fill (windows d.windows) a.win.0 a.rect a.cell)
    (fill_tests (windows d.windows) a.win.0 a.rect a.cell) c.in_ok-fill_damaging.field-0 tt c.in_ok-fill_damaging.ensures

pub invariant_of-self-2 : goal.invariant_of-self-2
invariant_of-self-2 c = (made c).0

pub returns : goal.returns
returns c = rw (← c.self.view_is) (made c).1
