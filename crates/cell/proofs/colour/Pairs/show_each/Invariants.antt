use Rattle.std.specs.Prelude.{◌≡◌}
use Rattle.cell.specs.{length, map, take, AllByRecursion, IsShown, shown}
use Rattle.cell.proofs.colour.Pairs.show_each.Given as goal

abbrev pub invariant-loop-x : goal.invariant-loop-x
invariant-loop-x l = record {
  long : length l.places ≡ length l.cells;
  shown : take l.x l.places ≡ map (shown l.self) (take l.x l.cells);
  each : AllByRecursion IsShown (take l.x l.places);
}
