use Rattle.cell.specs.{arith, shown_in, shown_of, sym, ◌∙◌}
use Rattle.cell.proofs.LaneLaws.{one_more_shown}
use Rattle.cell.proofs.colour.are_shown_in.Goals as goal

pub loop-x-preserved : goal.loop-x-preserved
loop-x-preserved c =
    one_more_shown (shown_in c.args.colours) shown_of _ _ c.loop-x.x c.index-cells-x.result c.index-places-x.result c.loop-x.different c.bits.result c.bits-in-loop-x.result
    c.loop-x-test.true (omega (arith, c.loop-x-test.true, c.requires)) c.index-cells-x.is c.index-places-x.is (sym c.of_cell.ensures ∙ c.bits.ensures.held) c.bits-in-loop-x.ensures.held
    c.loop-x.invariant
