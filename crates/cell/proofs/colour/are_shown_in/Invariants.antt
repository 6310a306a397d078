use Rattle.std.specs.Prelude.{◌≡◌}
use Rattle.cell.specs.{map, take, shown_in}
use Rattle.cell.proofs.colour.are_shown_in.Given as goal

abbrev pub invariant-loop-x : goal.invariant-loop-x
invariant-loop-x l = l.different ≡ 0 → take l.x l.places ≡ map (shown_in l.fn.colours) (take l.x l.cells)
