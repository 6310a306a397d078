use Rattle.std.specs.Prelude.{◌≡◌}
use Rattle.checks.specs.{length, after_bad_escape}
use Rattle.checks.proofs.arguments.after_bad_escape.Given as goal

abbrev pub invariant-loop-first : goal.invariant-loop-first
invariant-loop-first l = after_bad_escape l.text ≡ after_bad_escape l.left

abbrev pub decreases-loop-first : goal.decreases-loop-first
decreases-loop-first l = length l.left
