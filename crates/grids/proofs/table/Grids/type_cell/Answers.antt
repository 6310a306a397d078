-- One cell is a line of one column, which is touched, and the cursor goes on.
use Rattle.std.specs.Prelude.{◌≡◌, ◌+◌, ◌-◌}
use Rattle.grids.specs.{ap, ◌∙◌, arith, rules, common_steps, filled_cells, with_cursor, with_drawing}
use Rattle.grids.proofs.Sounds.{few_columns}
use Rattle.grids.proofs.Writes.{drawn_over, one_line, put-row, put-typed}
use Rattle.grids.proofs.table.Grids.type_cell.Goals as goal

pub overflow_add-x : goal.overflow_add-x
overflow_add-x c =
    let few = few_columns _ c.args.win.0 c.args.y (c.args.x + 1) c.has_window.ensures.sound c.requires in
    grind (arith, common_steps)

pub returns-clause-written : goal.returns-clause-written
returns-clause-written c =
    let a = c.args in
    let o = c.touch_to-origin in
    let drawing = filled_cells (o.result.line + a.y) (o.result.column + a.x) (o.result.column + a.x) a.cell in
    let line = o.result.line + a.y in
    let column = o.result.column + a.x in
    let drawn = c.change.ensures.windows (with_drawing drawing) (λ k r made h. rw (← one_line line column column a.cell) (search rules)) in
    let last : a.x + 1 - 1 ≡ a.x = omega arith in
    drawn ∙ ap (drawn_over o.result.grid drawing) (rw last at o.ensures.touched)
    ∙ put-typed _ _ a.win.0 _ a.y a.x a.x (with_cursor (a.y, a.x + 1)) drawing (put-row _ a.win.0 _ a.y a.x a.x a.cell (grind (arith, common_steps)) (omega arith) o.ensures.line.leads)
