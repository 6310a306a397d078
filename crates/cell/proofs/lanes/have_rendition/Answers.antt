use Rattle.cell.specs.{arith, same_rendition}
use Rattle.cell.proofs.LaneLaws.{one_more_of, same_above}
use Rattle.cell.proofs.lanes.have_rendition.Goals as goal

pub loop-cell-preserved : goal.loop-cell-preserved
loop-cell-preserved c =
    one_more_of 8 (λ x h. omega (arith, h)) (λ x h. omega (arith, h)) (λ cell. same_rendition cell.rendition c.args.rendition) _ _ c.cell-item.result c.loop-cell.different c.bits.result _ (omega arith) c.cell-item.is
    (same_above c.cell-item.result c.bits.result _ c.args.rendition c.bits.ensures.value c.bits.ensures.held c.bits.ensures.sound c.bits-wanted.ensures.value c.bits-wanted.ensures.held) c.loop-cell.invariant
