use Rattle.script.specs.{arith, sym}
use Rattle.script.proofs.NumberLemmas.{one_digit_more}
use Rattle.script.proofs.numbers.first_digits.Goals as goal

pub loop-count-preserved : goal.loop-count-preserved
loop-count-preserved c = record {
  digits = rw c.from.ensures (one_digit_more c.args.text.now c.loop-count.count c.loop-count.value c.loop-count.invariant.digits c.loop-count-test.true (sym c.if-not-is_ascii_digit.ensures.value));
  few = omega arith;
}
