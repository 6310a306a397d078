-- A part of a window that is inside it is added.
use Rattle.grids.specs.{arith, ap, common_steps, option_map, makes, next_window, window_of, window_map, windows}
use Rattle.grids.proofs.NewWindows.{changed-as, made_derived}
use Rattle.grids.proofs.table.Grids.derive.Goals as goal

pub returns : goal.returns
returns c =
    let a = c.args in
    let lines = rw c.lines.ensures at c.in_ok-lines.ensures.ok in
    let columns = rw c.columns.ensures at c.in_ok-columns.ensures.ok in
    changed-as (grind (arith, common_steps))
    (rw (c.place_from-place.ensures, c.place.ensures) (ap (makes (next_window (windows a.self.now)))
    (made_derived (window_map a.self.now.slots) c.in_ok-parent.parent.now a.win.0 a.nlines a.ncols a.y a.x c.in_ok-lines.lines c.in_ok-columns.columns
    (ap (option_map window_of) c.in_ok-parent.ensures.found) lines.1 columns.1)))
    c.add.ensures
