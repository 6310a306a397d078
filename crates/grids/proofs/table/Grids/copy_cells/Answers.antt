-- The row that was read is one write in the other window, which touches the columns written.
use Rattle.std.specs.Prelude.{◌+◌}
use Rattle.grids.specs.{ap, ◌∙◌, arith, rules, windows, listed_cells, with_drawing, common_steps}
use Rattle.grids.specs.contracts.table.Grids.{the_view}
use Rattle.grids.proofs.Showing.{piece-read}
use Rattle.grids.proofs.Writes.{drawn_over, put-copied}
use Rattle.grids.proofs.Copies.{whole-frame}
use Rattle.grids.proofs.table.Grids.copy_cells.Goals as goal

pub returns : goal.returns
returns c =
    let a = c.args in
    let t = the_view c.self.inside in
    let o = c.origin_of-source in
    let d = c.touch-target in
    let held = piece-read t.slots a.from.win.0 a.from.line a.from.column a.n (record { grid = o.result.grid; line = o.result.line; column = o.result.column }) c.row_in.result.now
    (rw c.deref.ensures.value at o.ensures.leads) (grind (arith, common_steps)) in
    let drawing = listed_cells (d.result.line + a.to.line) (d.result.column + a.to.column) c.row_in.result.now in
    let drawn = c.change.ensures.windows (with_drawing drawing) (λ k r made h. search rules) in
    record {
      written = drawn ∙ ap (drawn_over d.result.grid drawing) d.ensures.touched
          ∙ put-copied (windows a.self.now) a.from.win.0 a.to.win.0 _ a.from.line a.from.column a.to.line a.to.column a.n c.row_in.result.now
          (grind (arith, common_steps)) c.requires.some d.ensures.line.leads held.all (λ k below. rw (← c.self.view_is) (held.each k below));
      frame = grind (arith, common_steps, whole-frame (windows a.self.now) a.from.win.0 a.to.win.0 a.from.line a.from.column a.to.line a.to.column a.n);
    }
