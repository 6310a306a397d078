use Rattle.cell.specs.{arith, common_steps, IsCell, glyph_bits}
use Rattle.cell.proofs.LaneLaws.{more_numbers, more_sound}
use Rattle.cell.proofs.lanes.cell_lanes.Goals as goal

pub loop-x-preserved : goal.loop-x-preserved
loop-x-preserved c = record {
  long = grind (arith, common_steps);
  bits = more_numbers glyph_bits _ _ _ _ _ (omega arith) (omega arith) c.index-cells-x.is c.bits.ensures.value c.loop-x.invariant.bits;
  sound = more_sound IsCell c.args.cells.now c.loop-x.x c.index-cells-x.result (omega arith) c.index-cells-x.is c.bits.ensures.sound c.loop-x.invariant.sound;
}

pub returns-clause-bits : goal.returns-clause-bits
returns-clause-bits c = grind (arith, common_steps)
