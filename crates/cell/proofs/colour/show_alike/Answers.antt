use Rattle.cell.specs.{arith, common_steps}
use Rattle.cell.proofs.ShownPieces.{shown_more, sound_more}
use Rattle.cell.proofs.colour.show_alike.Goals as goal

pub loop-start-preserved : goal.loop-start-preserved
loop-start-preserved c = record {
  within = omega (arith, c.loop-start.invariant.within, c.loop-start.invariant.whole, c.loop-start-test.true);
  whole = omega (arith, c.loop-start.invariant.whole);
  long = grind (arith, common_steps);
  shown = grind (arith, common_steps, shown_more);
  each = search (arith, common_steps, sound_more);
}
