use Rattle.std.specs.Prelude.{◌≡◌}
use Rattle.cell.specs.{map, take, shown}
use Rattle.cell.proofs.colour.Pairs.are_shown.Given as goal

abbrev pub invariant-loop-x : goal.invariant-loop-x
invariant-loop-x l = take l.x l.places ≡ map (shown l.self) (take l.x l.cells)
