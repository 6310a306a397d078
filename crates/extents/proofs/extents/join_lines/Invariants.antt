use Rattle.extents.proofs.Lines.{Widened}
use Rattle.extents.proofs.extents.join_lines.Given as goal

abbrev pub invariant-loop-y : goal.invariant-loop-y
invariant-loop-y l = Widened l.frame l.y l.fn.lines.items l.lines.items
