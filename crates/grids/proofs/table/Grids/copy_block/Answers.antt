-- The cells that the grid has are one write in the window, which touches the lines written.
use Rattle.std.specs.Prelude.{◌+◌, ◌-◌}
use Rattle.grids.specs.{ap, sym, ◌∙◌, refl, arith, rules, common_steps, windows, Windows, with_change, with_touched_lines, with_block_copied, grid_place}
use Rattle.grids.proofs.Showing.{leads_shown}
use Rattle.grids.proofs.Writes.{from_to, put-block}
use Rattle.grids.proofs.Copies.{rectangle-frame}
use Rattle.grids.proofs.Blocks.{one-grid, root-shown, block-fits, grid-there}
use Rattle.grids.proofs.table.Grids.copy_block.Goals as goal

pub change-requires-clause-taken : goal.change-requires-clause-taken
change-requires-clause-taken c =
    let a = c.args in
    let o = c.origin_of in
    let t = c.touch_rectangle in
    let w = windows a.self.now in
    let source = leads_shown a.from.win.0 c.self.view_is c.deref.ensures.value o.ensures.leads in
    let root = root-shown a.from.win.0 (grid_place o.result) c.self.view_is c.deref.ensures.value o.ensures in
    let same = one-grid _ _ (grid_place o.result) (grid_place t.result) source t.ensures.line.leads c.requires.one_grid in
    let fits = block-fits a.self.now.slots t.new.self.slots a.from.win.0 a.to.win.0 (grid_place o.result) (grid_place t.result) a.from.line a.from.column a.to.line a.to.column a.lines a.columns
    (with_touched_lines (from_to a.to.line (a.to.line + a.lines - 1)) a.to.column (a.to.column + a.columns - 1)) (λ b. refl) (λ b. refl) (ap (λ (v : Windows). v.window) t.ensures.touched) root t.ensures.line c.requires.there.from same
    c.requires.some_line c.requires.some_column in
    rw (c.onward-source.ensures, c.onward-target.ensures) (grind (arith, common_steps))

pub returns : goal.returns
returns c =
    let a = c.args in
    let o = c.origin_of in
    let t = c.touch_rectangle in
    let w = windows a.self.now in
    let source = leads_shown a.from.win.0 c.self.view_is c.deref.ensures.value o.ensures.leads in
    let same = one-grid _ _ (grid_place o.result) (grid_place t.result) source t.ensures.line.leads c.requires.one_grid in
    let root = root-shown a.from.win.0 (grid_place o.result) c.self.view_is c.deref.ensures.value o.ensures in
    let grid = grid-there a.self.now.slots (grid_place o.result) root.grid in
    let drawn = c.change.ensures.windows (with_block_copied c.onward-source.result.line c.onward-source.result.column c.onward-target.result.line c.onward-target.result.column a.lines a.columns)
    (λ k r made h. search rules) in
    record {
      written = (rw (c.onward-source.ensures, c.onward-target.ensures) at drawn)
          ∙ ap (λ (v : Windows). record v {
            window = with_change v.window t.result.grid
                (with_block_copied (o.result.line + a.from.line) (o.result.column + a.from.column) (t.result.line + a.to.line) (t.result.column + a.to.column) a.lines a.columns);
          }) t.ensures.touched
          ∙ put-block w a.from.win.0 a.to.win.0 (grid_place o.result) (grid_place t.result) a.from.line a.from.column a.to.line a.to.column a.lines a.columns c.requires.some_line c.requires.some_column
          c.requires.there.to source t.ensures.line.leads grid.0 (ap w.window (sym same) ∙ grid.1) same;
      frame = sym (rectangle-frame w a.from.win.0 a.to.win.0 a.from.line a.from.column a.to.line a.to.column a.lines a.columns c.requires.there.to c.requires.some_line c.requires.some_column);
    }
