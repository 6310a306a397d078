use Rattle.std.specs.Prelude.{◌≡◌}
use Rattle.cell.specs.{take, nat_lt, list_all, same_rendition}
use Rattle.cell.proofs.lanes.have_rendition.Given as goal

abbrev pub invariant-loop-cell : goal.invariant-loop-cell
invariant-loop-cell l = nat_lt l.different 256 ≡ list_all (λ cell. same_rendition cell.rendition l.fn.rendition) (take l.cell-index l.cells)
