use Rattle.std.specs.Prelude.{◌≡◌, ◌≤◌, ◌-◌}
use Rattle.cell.specs.{length, take}
use Rattle.cell.proofs.difference.first_diff.Given as goal

abbrev pub invariant-loop-start : goal.invariant-loop-start
invariant-loop-start l = record {
  within : l.start ≤ length l.old;
  same : take l.start l.old ≡ take l.start l.new;
}

abbrev pub decreases-loop-start : goal.decreases-loop-start
decreases-loop-start l = length l.old - l.start
