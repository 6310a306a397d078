-- `copy_block`: cells copied within a grid, line by line, or whole lines at once (`Moves`).
use Rattle.cell.specs.{arith, ◌∙◌, common_steps, nat_lt, nat_tests}
use Rattle.cell.proofs.Moves.{BlockFits-from, source_left, target_left, next, whole-block}
use Rattle.cell.proofs.grid.Grid.copy_block.Goals as goal

pub overflow_add-sy : goal.overflow_add-sy
overflow_add-sy g c = let f = BlockFits-from _ _ _ _ _ _ c.self.invariant.all c.self.view_is c.requires.source c.requires.target c.requires.source_columns c.requires.target_columns in grind (arith, common_steps, f.source, f.few_lines)

pub overflow_add-dy : goal.overflow_add-dy
overflow_add-dy g c = let f = BlockFits-from _ _ _ _ _ _ c.self.invariant.all c.self.view_is c.requires.source c.requires.target c.requires.source_columns c.requires.target_columns in grind (arith, common_steps, f.target, f.few_lines)

pub copy_cells-requires-clause-source_columns : goal.copy_cells-requires-clause-source_columns
copy_cells-requires-clause-source_columns g c = source_left (BlockFits-from _ _ _ _ _ _ c.self.invariant.all c.self.view_is c.requires.source c.requires.target c.requires.source_columns c.requires.target_columns) c.loop-i.invariant.size c.start_of-k.result (grind (arith, common_steps))

pub copy_cells-requires-clause-target_columns : goal.copy_cells-requires-clause-target_columns
copy_cells-requires-clause-target_columns g c = target_left (BlockFits-from _ _ _ _ _ _ c.self.invariant.all c.self.view_is c.requires.source c.requires.target c.requires.source_columns c.requires.target_columns) c.loop-i.invariant.size c.start_of-k.result (grind (arith, common_steps))

pub loop-i-preserved : goal.loop-i-preserved
loop-i-preserved g c = let a = c.args in let i = c.loop-i.invariant in let e = c.copy_cells.ensures in record {
  shown = next g.T.Element.blank a.self.now a.sy a.sx a.dy a.dx a.columns (nat_lt a.sy a.dy) c.loop-i.self c.copy_cells.new.self a.lines c.loop-i.i c.loop-i-test.true (grind (arith, nat_tests))
      (grind (arith, nat_tests)) i.shown (rw c.start_of-k.ensures at e.shown);
  height = e.height ∙ i.height;
  size = λ lines columns h. e.size lines columns (i.size lines columns h);
  cells = λ h. e.cells (i.cells h);
}

pub returns-then-columns-self-clause-shown : goal.returns-then-columns-self-clause-shown
returns-then-columns-self-clause-shown g c = λ v u.
    let a = c.args in
    let f = BlockFits-from _ _ _ _ _ _ c.self.invariant.all c.self.view_is c.requires.source c.requires.target c.requires.source_columns c.requires.target_columns in
    c.copy_lines.ensures.shown v u
    ∙ rw (c.if-columns-self.true, ← c.self.view_is) (whole-block g.T.Element.blank _ _ _ c.self.invariant.all a.sy a.sx a.dy a.dx a.lines (rw c.if-columns-self.true at f.left)
    (rw c.if-columns-self.true at f.fits) v u)
