use Rattle.std.specs.Prelude.{◌-◌, ◌≤◌}
use Rattle.script.specs.{length, is_newline}
use Rattle.script.proofs.NewlineLemmas.{NoneBefore}
use Rattle.script.proofs.bytes.first_newline.Given as goal

abbrev pub invariant-loop-from : goal.invariant-loop-from
invariant-loop-from l = record {
  within : l.from ≤ length l.text;
  before : NoneBefore is_newline l.text l.from;
}

abbrev pub decreases-loop-from : goal.decreases-loop-from
decreases-loop-from l = length l.text - l.from
