-- `show_rectangle`: a drawing is laid over a picture line by line (`Laying`); what noutrefresh and pnoutrefresh draw on each line of the screen
-- (`RefreshedLines`).
use Rattle.std.specs.Prelude.{◌≡◌, ◌+◌, ◌-◌}
use Rattle.compose.specs.{false, refl, arith, rules, subst, common_steps, Drawing, cell_at, copywin_drawing, windows}
use Rattle.extents.proofs.Changing.{changes-none, changes-then}
use Rattle.compose.proofs.Laying.{LaidAbove, laid-all, laid-more}
use Rattle.compose.proofs.RefreshedLines.{of-pad, pad-above, pad-below, pad-piece}
use Rattle.compose.proofs.Touching.{DamagedAbove, above-all, above-more, above-none}
use Rattle.compose.proofs.refresh.show_rectangle.Goals as goal

pub overflow_add-columns : goal.overflow_add-columns
overflow_add-columns c =
    let a = c.args in
    let h = of-pad (windows a.table.now) a.source.win.0 a.source.line a.source.column a.target.top a.target.left a.target.bottom a.target.right c.requires.windows c.requires.accepted in
    omega (arith, h.on_column, h.few_columns.1)

pub overflow_add-y-end : goal.overflow_add-y-end
overflow_add-y-end c =
    let a = c.args in
    let h = of-pad (windows a.table.now) a.source.win.0 a.source.line a.source.column a.target.top a.target.left a.target.bottom a.target.right c.requires.windows c.requires.accepted in
    omega (arith, h.on_line, h.few_lines.1)

pub overflow_add-line : goal.overflow_add-line
overflow_add-line c =
    let a = c.args in
    let h = of-pad (windows a.table.now) a.source.win.0 a.source.line a.source.column a.target.top a.target.left a.target.bottom a.target.right c.requires.windows c.requires.accepted in
    omega (arith, h.last_line, h.few_lines.0, c.loop-y-test.true)

pub loop-y-init : goal.loop-y-init
loop-y-init c =
    let a = c.args in
    let ws = windows a.table.now in
    let w = a.source.win.0 in
    let h = of-pad ws w a.source.line a.source.column a.target.top a.target.left a.target.bottom a.target.right c.requires.windows c.requires.accepted in
    record {
      laid = first_of (search rules, grind (arith, common_steps));
      changes = changes-none a.picture.now.changes a.picture.now.cells;
      few = above-none ws.columns (copywin_drawing ws.window w a.source.line a.source.column a.target.top a.target.left a.target.bottom a.target.right false) a.picture.now.changes (a.target.top + 0)
          (λ v before. pad-above ws w a.source.line a.source.column a.target.top a.target.left a.target.bottom a.target.right h v (omega (arith, before)));
    }

pub loop-y-preserved : goal.loop-y-preserved
loop-y-preserved c =
    let a = c.args in
    let table = a.table.now in
    let ws = windows table in
    let w = a.source.win.0 in
    let y = c.loop-y.y in
    let h = of-pad ws w a.source.line a.source.column a.target.top a.target.left a.target.bottom a.target.right c.requires.windows c.requires.accepted in
    let f : Drawing = copywin_drawing ws.window w a.source.line a.source.column a.target.top a.target.left a.target.bottom a.target.right false in
    let next : a.target.top + y + 1 ≡ a.target.top + (y + 1) = omega arith in
    record {
      laid = subst (λ n. LaidAbove a.pairs.now f table.lines table.columns a.picture.now.cells n c.show_piece.new.self.cells) next
          (laid-more a.pairs.now f table.lines table.columns a.picture.now.cells (a.target.top + y) a.target.left (a.target.right - a.target.left + 1)
          (λ u. cell_at ws.window w (a.source.line + y) (a.source.column + (u - a.target.left))) c.loop-y.picture.cells c.show_piece.new.self.cells c.loop-y.invariant.laid
          (pad-piece ws w a.source.line a.source.column a.target.top a.target.left a.target.bottom a.target.right h y c.loop-y-test.true)
          c.show_piece.ensures.shown c.show_piece.ensures.size);
      few = subst (λ n. DamagedAbove ws.columns f a.picture.now.changes n c.show_piece.new.self.changes) next
          (above-more ws.columns f a.picture.now.changes (a.target.top + y) a.target.left (a.target.right - a.target.left + 1)
          (λ u. cell_at ws.window w (a.source.line + y) (a.source.column + (u - a.target.left)))
          (record { top = a.target.top + y; left = a.target.left; bottom = a.target.top + y; right = a.target.left + (a.target.right - a.target.left + 1 - 1) })
          c.loop-y.picture.changes c.show_piece.new.self.changes c.loop-y.invariant.few
          (pad-piece ws w a.source.line a.source.column a.target.top a.target.left a.target.bottom a.target.right h y c.loop-y-test.true)
          (omega arith) (omega (arith, h.across, h.on_column)) refl refl refl (omega arith) c.show_piece.ensures.few);
      changes = changes-then c.loop-y.invariant.changes c.show_piece.ensures.changes;
    }

pub returns : goal.returns
returns c =
    let a = c.args in
    let table = a.table.now in
    let ws = windows table in
    let w = a.source.win.0 in
    let h = of-pad ws w a.source.line a.source.column a.target.top a.target.left a.target.bottom a.target.right c.requires.windows c.requires.accepted in
    record {
      shown = laid-all a.pairs.now (copywin_drawing ws.window w a.source.line a.source.column a.target.top a.target.left a.target.bottom a.target.right false) table.lines table.columns
          a.picture.now.cells (a.target.top + c.loop-y.y) c.loop-y.picture.cells c.loop-y.invariant.laid
          (λ v from below. pad-below ws w a.source.line a.source.column a.target.top a.target.left a.target.bottom a.target.right h v (let end = c.loop-y-test.false in omega (arith, from, end)));
      few = above-all ws.columns (copywin_drawing ws.window w a.source.line a.source.column a.target.top a.target.left a.target.bottom a.target.right false)
          a.picture.now.changes (a.target.top + c.loop-y.y) c.loop-y.picture.changes c.loop-y.invariant.few
          (λ v from. pad-below ws w a.source.line a.source.column a.target.top a.target.left a.target.bottom a.target.right h v (let end = c.loop-y-test.false in omega (arith, from, end)));
      changes = c.loop-y.invariant.changes;
    }
