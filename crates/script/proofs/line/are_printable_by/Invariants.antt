use Rattle.std.specs.Prelude.{◌≡◌, ◌≤◌, ◌-◌}
use Rattle.script.specs.{length, take, true, list_all, is_printable}
use Rattle.script.proofs.line.are_printable_by.Given as goal

abbrev pub invariant-loop-at : goal.invariant-loop-at
invariant-loop-at l = record {
  within : l.at ≤ length l.text;
  before : list_all is_printable (take l.at l.text) ≡ true;
}

abbrev pub decreases-loop-at : goal.decreases-loop-at
decreases-loop-at l = length l.text - l.at
