use Rattle.std.specs.Prelude.{◌≤◌}
use Rattle.script.specs.{DigitsSoFar}
use Rattle.script.specs.declared.limits.TheConstants.{MOST_DIGITS}
use Rattle.script.proofs.numbers.first_digits.Given as goal

abbrev pub invariant-loop-count : goal.invariant-loop-count
invariant-loop-count l = record {
  digits : DigitsSoFar l.text l.count l.value;
  few : l.count ≤ MOST_DIGITS;
}
