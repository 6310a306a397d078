-- The filled rectangle is one write, which touches the columns written.
use Rattle.std.specs.Prelude.{◌+◌}
use Rattle.grids.specs.{ap, ◌∙◌, rules, rectangle_filled, with_drawing}
use Rattle.grids.proofs.Writes.{drawn_over, put-rectangle}
use Rattle.grids.proofs.table.Grids.fill_rectangle.Goals as goal

pub returns-clause-written : goal.returns-clause-written
returns-clause-written c =
    let a = c.args in
    let r = a.rect in
    let o = c.touch_rectangle-origin in
    let drawing = rectangle_filled
    (record { top = o.result.line + r.top; left = o.result.column + r.left; bottom = o.result.line + r.bottom; right = o.result.column + r.right }) a.cell in
    let drawn = c.change.ensures.windows (with_drawing drawing) (λ k r made h. search rules) in
    drawn ∙ ap (drawn_over o.result.grid drawing) o.ensures.touched ∙ put-rectangle _ a.win.0 _ r a.cell c.requires.there c.requires.columns o.ensures.line.leads
