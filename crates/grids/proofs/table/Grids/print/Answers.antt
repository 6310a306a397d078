-- `print`: a row written through a window is one put (`Writes`).
use Rattle.std.specs.Prelude.{◌+◌, ◌-◌}
use Rattle.grids.specs.{ap, ◌∙◌, arith, length, map, rules, common_steps, length-map, listed_cells, with_cursor, with_drawing, printed_cell}
use Rattle.grids.proofs.Sounds.{few_columns}
use Rattle.grids.proofs.Writes.{drawn_over, put-listed, put-typed}
use Rattle.grids.proofs.table.Grids.print.Goals as goal

pub overflow_cast-text : goal.overflow_cast-text
overflow_cast-text c =
    let few = few_columns _ c.args.win.0 c.args.y (c.args.left + length c.args.text.now) c.has_window.ensures.sound c.requires.there in
    grind (arith, common_steps)

pub overflow_add-left : goal.overflow_add-left
overflow_add-left c =
    let few = few_columns _ c.args.win.0 c.args.y (c.args.left + length c.args.text.now) c.has_window.ensures.sound c.requires.there in
    grind (arith, common_steps)

pub returns-clause-written : goal.returns-clause-written
returns-clause-written c =
    let a = c.args in
    let o = c.touch_to-origin in
    let n = length a.text.now in
    let cells = map (printed_cell a.pen) a.text.now in
    let drawing = listed_cells (o.result.line + a.y) (o.result.column + a.left) cells in
    let drawn = c.change.ensures.windows (with_drawing drawing) (λ k r made h. search rules) in
    drawn ∙ ap (drawn_over o.result.grid drawing) o.ensures.touched
    ∙ put-typed _ _ a.win.0 _ a.y a.left (a.left + n - 1) (with_cursor (a.y, a.left + n)) drawing
    (put-listed _ a.win.0 _ a.y a.left n cells (length-map a.text.now (printed_cell a.pen)) (grind (arith, common_steps)) c.requires.some o.ensures.line.leads)
