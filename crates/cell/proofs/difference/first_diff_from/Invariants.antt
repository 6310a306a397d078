use Rattle.std.specs.Prelude.{◌≡◌}
use Rattle.cell.specs.{take}
use Rattle.cell.proofs.difference.first_diff_from.Given as goal

abbrev pub invariant-loop-x : goal.invariant-loop-x
invariant-loop-x l = take l.x l.old ≡ take l.x l.new
