use Rattle.std.specs.Prelude.{◌≡◌, ◌≤◌}
use Rattle.cell.specs.{length, drop}
use Rattle.cell.proofs.difference.last_diff_before.Given as goal

abbrev pub invariant-loop-end : goal.invariant-loop-end
invariant-loop-end l = record {
  within : l.end ≤ length l.old;
  same : drop l.end l.old ≡ drop l.end l.new;
}

abbrev pub decreases-loop-end : goal.decreases-loop-end
decreases-loop-end l = l.end
