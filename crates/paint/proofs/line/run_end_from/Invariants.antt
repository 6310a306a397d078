use Rattle.paint.specs.{IsRun}
use Rattle.paint.proofs.line.run_end_from.Given as goal

abbrev pub invariant-loop-x : goal.invariant-loop-x
invariant-loop-x l = IsRun l.shown l.wanted l.start l.end l.x
