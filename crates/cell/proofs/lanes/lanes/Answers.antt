use Rattle.cell.specs.{arith, common_steps, shown_bits}
use Rattle.cell.proofs.LaneLaws.{more_held, more_numbers}
use Rattle.cell.proofs.lanes.lanes.Goals as goal

pub loop-x-preserved : goal.loop-x-preserved
loop-x-preserved c = record {
  long = grind (arith, common_steps);
  bits = more_numbers shown_bits _ _ _ _ _ (omega arith) (omega arith) c.index-cells-x.is c.bits.ensures.value c.loop-x.invariant.bits;
  held = more_held _ _ _ _ _ (omega arith) (omega arith) c.index-cells-x.is c.bits.ensures.held c.loop-x.invariant.held;
}

pub returns-clause-bits : goal.returns-clause-bits
returns-clause-bits c = grind (arith, common_steps)

pub returns-clause-held : goal.returns-clause-held
returns-clause-held c = grind (arith, common_steps)
