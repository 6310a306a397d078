use Rattle.std.specs.Prelude.{◌==◌}
use Rattle.cell.specs.{◌∙◌, ap, arith}
use Rattle.cell.proofs.LaneLaws.{one_more_of, same_pair}
use Rattle.cell.proofs.lanes.have_pair.Goals as goal

pub loop-cell-preserved : goal.loop-cell-preserved
loop-cell-preserved c =
    one_more_of 16 (λ x h. omega (arith, h)) (λ x h. omega (arith, h)) (λ cell. cell.pair == c.args.pair) _ _ c.cell-item.result c.loop-cell.different c.bits.result _ (omega arith) c.cell-item.is
    (same_pair c.cell-item.result c.bits.result c.from-wanted.result c.bits.ensures.value c.bits.ensures.sound
    ∙ ap (λ pair. c.cell-item.result.pair == pair) (c.from-wanted.ensures ∙ c.number.ensures.value)) c.loop-cell.invariant
