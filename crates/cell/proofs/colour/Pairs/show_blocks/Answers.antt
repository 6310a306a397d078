use Rattle.std.specs.Prelude.{◌≤◌}
use Rattle.cell.specs.{arith, common_steps, IsShown}
use Rattle.cell.proofs.ShownPieces.{shown_fewer, shown_more, shown_rest, sound_more, sound_rest}
use Rattle.cell.proofs.colour.Pairs.show_blocks.Goals as goal

pub loop-start-preserved : goal.loop-start-preserved
loop-start-preserved c = record {
  within = omega (arith, c.loop-start.invariant.within, c.loop-start-test.true);
  long = grind (arith, common_steps);
  shown = grind (arith, common_steps, shown_more);
  each = search (arith, common_steps, sound_more);
}

pub returns-then-start-cells-clause-shown : goal.returns-then-start-cells-clause-shown
returns-then-start-cells-clause-shown c =
    let fewer : c.min-rest.result ≤ c.loop-start.start = omega (arith, c.min-rest.ensures) in
    shown_rest _ _ _ _ c.min-rest.result (omega (arith, fewer, c.loop-start.invariant.within, c.loop-start.invariant.long)) c.loop-start.invariant.long
    (grind (arith, common_steps)) c.show_lanes.ensures.shown (shown_fewer _ _ _ _ c.loop-start.start fewer c.loop-start.invariant.shown)

pub returns-then-start-cells-clause-cells : goal.returns-then-start-cells-clause-cells
returns-then-start-cells-clause-cells c =
    let fewer : c.min-rest.result ≤ c.loop-start.start = omega (arith, c.min-rest.ensures) in
    sound_rest IsShown _ _ c.min-rest.result c.loop-start.start fewer (omega (arith, c.loop-start.invariant.within, c.loop-start.invariant.long))
    (grind (arith, common_steps)) c.loop-start.invariant.each c.show_lanes.ensures.cells
