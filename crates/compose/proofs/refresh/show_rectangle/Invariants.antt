use Rattle.std.specs.Prelude.{◌+◌}
use Rattle.compose.specs.{false, copywin_drawing, AddsChanges, windows}
use Rattle.compose.proofs.Laying.{LaidAbove}
use Rattle.compose.proofs.Touching.{DamagedAbove}
use Rattle.compose.proofs.refresh.show_rectangle.Given as goal

abbrev pub invariant-loop-y : goal.invariant-loop-y
invariant-loop-y l = record {
  laid : LaidAbove l.pairs (copywin_drawing (windows l.table).window l.source.win.0 l.source.line l.source.column l.target.top l.target.left l.target.bottom l.target.right false) l.table.lines
      l.table.columns l.fn.picture.cells (l.target.top + l.y) l.picture.cells;
  few : DamagedAbove l.table.columns (copywin_drawing (windows l.table).window l.source.win.0 l.source.line l.source.column l.target.top l.target.left l.target.bottom l.target.right false)
      l.fn.picture.changes (l.target.top + l.y) l.picture.changes;
  changes : AddsChanges l.fn.picture.changes l.fn.picture.cells l.picture.changes l.picture.cells;
}
