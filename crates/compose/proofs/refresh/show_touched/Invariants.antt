use Rattle.std.specs.Prelude.{◌≡◌, ◌+◌}
use Rattle.compose.specs.{length, touched_cells, AddsChanges, windows}
use Rattle.compose.proofs.Laying.{LaidAbove}
use Rattle.compose.proofs.Touching.{DamagedAbove}
use Rattle.compose.proofs.refresh.show_touched.Given as goal

abbrev pub invariant-loop-y : goal.invariant-loop-y
invariant-loop-y l = record {
  laid : LaidAbove l.pairs (touched_cells (windows l.table).window l.win.0) l.table.lines l.table.columns l.fn.picture.cells (l.top + l.y) l.picture.cells;
  changes : AddsChanges l.fn.picture.changes l.fn.picture.cells l.picture.changes l.picture.cells;
  few : DamagedAbove l.table.columns (touched_cells (windows l.table).window l.win.0) l.fn.picture.changes (l.top + l.y) l.picture.changes;
  height : length l.damage ≡ l.table.lines;
  damaged : DamagedAbove l.table.columns (touched_cells (windows l.table).window l.win.0) l.fn.damage (l.top + l.y) l.damage;
}
