use Rattle.std.specs.Prelude.{◌≡◌}
use Rattle.cell.specs.{take, list_all, is_printable}
use Rattle.cell.proofs.cell.are_printable.Given as goal

abbrev pub invariant-loop-ch : goal.invariant-loop-ch
invariant-loop-ch l = l.all ≡ list_all is_printable (take l.ch-index l.text)
