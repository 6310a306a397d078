use Rattle.std.specs.Prelude.{◌-◌}
use Rattle.cell.specs.{length, arith, common_steps, IsShown}
use Rattle.cell.proofs.ShownPieces.{shown_fewer, shown_more, shown_rest, sound_more, sound_rest}
use Rattle.cell.proofs.colour.Pairs.show_lanes.Goals as goal

pub loop-start-preserved : goal.loop-start-preserved
loop-start-preserved c = record {
  within = omega (arith, c.loop-start.invariant.within, c.loop-start-test.true);
  long = grind (arith, common_steps);
  shown = grind (arith, common_steps, shown_more);
  each = search (arith, common_steps, sound_more);
}

pub returns-then-start-cells-clause-shown : goal.returns-then-start-cells-clause-shown
returns-then-start-cells-clause-shown c = shown_rest _ _ _ _ (length c.args.cells.now - 16) (omega (arith, c.loop-start.invariant.long)) c.loop-start.invariant.long
    (grind (arith, common_steps)) c.show_many-then-start-cells.ensures.shown
    (shown_fewer _ _ _ _ c.loop-start.start (omega (arith, c.loop-start-test.false)) c.loop-start.invariant.shown)

pub returns-then-start-cells-clause-cells : goal.returns-then-start-cells-clause-cells
returns-then-start-cells-clause-cells c = sound_rest IsShown _ _ (length c.args.cells.now - 16) c.loop-start.start (omega (arith, c.loop-start-test.false))
    (omega (arith, c.loop-start.invariant.within, c.loop-start.invariant.long)) (grind (arith, common_steps)) c.loop-start.invariant.each c.show_many-then-start-cells.ensures.cells
