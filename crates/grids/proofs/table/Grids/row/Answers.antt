-- The row is the line that the window shows.
use Rattle.grids.specs.contracts.table.Grids.{the_view}
use Rattle.grids.proofs.Showing.{row-read}
use Rattle.grids.proofs.table.Grids.row.Goals as goal

pub returns-clause-row : goal.returns-clause-row
returns-clause-row c =
    let t = the_view c.self.inside in
    let o = c.origin_of-origin in
    let leads = rw c.deref.ensures.value at o.ensures.leads in
    let columns = rw c.deref-2.ensures.value at c.columns_of-columns.ensures in
    let read = rw c.deref-3.ensures.value at c.row_in.ensures.row in
    let there = rw (← c.self.view_is) at c.requires in
    rw (← c.self.view_is) (row-read t.slots c.args.win.0 c.args.y c.columns_of-columns.result _ c.row_in.result.now
    there columns leads read)
