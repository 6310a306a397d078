use Rattle.std.specs.Prelude.{◌≡◌}
use Rattle.cell.specs.{length, map, take, AllByRecursion, IsShown, shown_in}
use Rattle.cell.specs.declared.lanes.TheConstants.{LANES}
use Rattle.cell.proofs.colour.show_in.Given as goal

abbrev pub invariant-loop-x : goal.invariant-loop-x
invariant-loop-x l = record {
  long : length l.shown ≡ LANES;
  shown : take l.x l.shown ≡ map (shown_in l.colours) (take l.x l.cells);
  each : AllByRecursion IsShown (take l.x l.shown);
}
