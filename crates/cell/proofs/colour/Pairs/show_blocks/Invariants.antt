use Rattle.std.specs.Prelude.{◌≡◌, ◌≤◌, ◌-◌}
use Rattle.cell.specs.{length, map, take, AllByRecursion, IsShown, shown}
use Rattle.cell.proofs.colour.Pairs.show_blocks.Given as goal

abbrev pub invariant-loop-start : goal.invariant-loop-start
invariant-loop-start l = record {
  within : l.start ≤ length l.cells;
  long : length l.places ≡ length l.cells;
  shown : take l.start l.places ≡ map (shown l.self) (take l.start l.cells);
  each : AllByRecursion IsShown (take l.start l.places);
}

abbrev pub decreases-loop-start : goal.decreases-loop-start
decreases-loop-start l = length l.cells - l.start
