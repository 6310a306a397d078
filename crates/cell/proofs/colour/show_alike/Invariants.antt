use Rattle.std.specs.Prelude.{◌≡◌, ◌≤◌, ◌-◌, ◌%◌}
use Rattle.cell.specs.{length, map, take, AllByRecursion, IsShown, shown_in}
use Rattle.cell.specs.declared.lanes.TheConstants.{BLOCK}
use Rattle.cell.proofs.colour.show_alike.Given as goal

abbrev pub invariant-loop-start : goal.invariant-loop-start
invariant-loop-start l = record {
  within : l.start ≤ BLOCK;
  whole : l.start % 16 ≡ 0;
  long : length l.places ≡ BLOCK;
  shown : take l.start l.places ≡ map (shown_in l.colours) (take l.start l.cells);
  each : AllByRecursion IsShown (take l.start l.places);
}

abbrev pub decreases-loop-start : goal.decreases-loop-start
decreases-loop-start l = BLOCK - l.start
