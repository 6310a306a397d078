-- The row is one write, which touches the columns written.
use Rattle.std.specs.Prelude.{◌+◌, ◌-◌}
use Rattle.grids.specs.{ap, ◌∙◌, arith, common_steps, length, length-map, map, rules, given_cell, listed_cells, with_drawing}
use Rattle.grids.proofs.Sounds.{few_columns}
use Rattle.grids.proofs.Writes.{drawn_over, put-listed}
use Rattle.grids.proofs.table.Grids.put.Goals as goal

pub overflow_cast-numbers : goal.overflow_cast-numbers
overflow_cast-numbers c =
    let few = few_columns _ c.args.win.0 c.args.y (c.args.left + length c.args.numbers.now - 1) c.has_window.ensures.sound c.requires.there in
    grind (arith, common_steps)

pub overflow_add-left : goal.overflow_add-left
overflow_add-left c =
    let few = few_columns _ c.args.win.0 c.args.y (c.args.left + length c.args.numbers.now - 1) c.has_window.ensures.sound c.requires.there in
    grind (arith, common_steps)

pub returns-clause-written : goal.returns-clause-written
returns-clause-written c =
    let a = c.args in
    let o = c.touch-origin in
    let cells = map given_cell a.numbers.now in
    let drawing = listed_cells (o.result.line + a.y) (o.result.column + a.left) cells in
    let drawn = c.change.ensures.windows (with_drawing drawing) (λ k r made h. search rules) in
    drawn ∙ ap (drawn_over o.result.grid drawing) o.ensures.touched
    ∙ put-listed _ a.win.0 _ a.y a.left (length a.numbers.now) cells (length-map a.numbers.now given_cell) c.requires.there c.requires.some o.ensures.line.leads
