use Rattle.std.specs.Prelude.{◌≡◌}
use Rattle.cell.specs.{length, map, take, AllByRecursion, IsCell, given_cell}
use Rattle.cell.proofs.grid.give_each.Given as goal

-- the first x cells are there
abbrev pub invariant-loop-x : goal.invariant-loop-x
invariant-loop-x l = record {
  long : length l.places ≡ length l.numbers;
  given : take l.x l.places ≡ map given_cell (take l.x l.numbers);
  sound : AllByRecursion IsCell (take l.x l.places);
}
