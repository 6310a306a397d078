-- The characters are printed some at a time, each time after those before.
use Rattle.std.specs.Prelude.{◌≡◌, ◌+◌, ◌-◌, ◌≤◌}
use Rattle.grids.specs.{length, map, take, drop, arith, length-take, length-drop, ◌∙◌, slice_index_or, common_steps, blank, printed_cell}
use Rattle.cell.proofs.PictureLemmas.{length-line}
use Rattle.grids.proofs.Prints.{filled-on, printed-part}
use Rattle.grids.proofs.ink.print_in.Goals as goal

pub print_together-requires-clause-columns : goal.print_together-requires-clause-columns
print_together-requires-clause-columns c =
    let width = length-line c.args.y (c.loop-done.invariant.size _ _ c.requires.even) c.requires.line in
    grind (arith, length-take, length-drop, common_steps)

pub loop-done-preserved : goal.loop-done-preserved
loop-done-preserved c =
    let a = c.args in
    let done = c.loop-done.done in
    let end = c.min-end.result in
    let old = c.loop-done.invariant in
    let now = c.print_together.ensures in
    let within : end ≤ length a.text.now = grind (arith, common_steps) in
    let after_done : done ≤ end = grind (arith, common_steps) in
    let long : length (take (end - done) (drop done a.text.now)) ≡ end - done = grind (arith, length-take, length-drop) in
    let further : a.x + end ≡ a.x + done + length (take (end - done) (drop done a.text.now)) = omega (arith, long, after_done) in
    record {
      within = within;
      shown = rw further (filled-on blank a.grid.now c.loop-done.grid c.print_together.new.grid a.y a.x (a.x + done) (a.x + done) _
          (λ u. slice_index_or (map (printed_cell a.pen) a.text.now) (u - a.x) blank) _ (omega arith) (omega arith) (omega arith) old.shown now.shown
          (λ u after before. printed-part a.pen a.text.now a.x done (end - done) u (omega (arith, within, after_done)) after (omega (arith, long, after_done))));
      size = λ lines columns size. now.size lines columns (old.size lines columns size);
      cells = λ cells. now.cells (old.cells cells);
      height = now.height ∙ old.height;
    }
