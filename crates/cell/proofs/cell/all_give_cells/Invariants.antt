use Rattle.std.specs.Prelude.{◌≡◌}
use Rattle.cell.specs.{take, list_all, gives_cell}
use Rattle.cell.proofs.cell.all_give_cells.Given as goal

abbrev pub invariant-loop-number : goal.invariant-loop-number
invariant-loop-number l = l.all ≡ list_all gives_cell (take l.number-index l.numbers)
