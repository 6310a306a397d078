use Rattle.std.specs.Prelude.{◌≡◌, ◌==◌}
use Rattle.cell.specs.{take, nat_lt, list_all}
use Rattle.cell.proofs.lanes.have_pair.Given as goal

abbrev pub invariant-loop-cell : goal.invariant-loop-cell
invariant-loop-cell l = nat_lt l.different 65536 ≡ list_all (λ cell. cell.pair == l.fn.pair) (take l.cell-index l.cells)
