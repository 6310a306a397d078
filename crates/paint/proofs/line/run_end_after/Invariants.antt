use Rattle.std.specs.Prelude.{◌-◌}
use Rattle.paint.specs.{IsRun}
use Rattle.paint.proofs.line.run_end_after.Given as goal

abbrev pub invariant-loop-x : goal.invariant-loop-x
invariant-loop-x l = IsRun l.shown l.wanted l.start l.end l.x

abbrev pub decreases-loop-x : goal.decreases-loop-x
decreases-loop-x l = l.end - l.x
