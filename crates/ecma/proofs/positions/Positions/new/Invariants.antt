use Rattle.std.specs.Prelude.{◌≡◌, ◌+◌, ◌<◌}
use Rattle.ecma.specs.{ℕ, [], get_or, length, IsNumber}
use Rattle.ecma.proofs.positions.Positions.new.Given as goal

abbrev pub invariant-loop-number : goal.invariant-loop-number
invariant-loop-number l = record {
  count : length l.numbers.items ≡ l.number;
  each : (k : ℕ) → k < length l.numbers.items → IsNumber (k + 1) (get_or l.numbers.items k []);
}
