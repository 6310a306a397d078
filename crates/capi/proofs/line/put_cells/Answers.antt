use Rattle.std.proofs.Common.{arith, ap, ◌∙◌, ◌<◌, length, slice_set}
use Rattle.capi.proofs.Lines.{with_first_more}
use Rattle.capi.proofs.line.put_cells.Goals as goal

pub loop-k-preserved : goal.loop-k-preserved
loop-k-preserved g c =
    let f = g.T.Numbered.number_of in let line = c.args.line.now in let old = c.args.buffer.now in let k = c.loop-k.k in
    let number = c.number.ensures ∙ ap f c.index-line-k.is in
    let within : k < length old = omega arith in let there : k < length line = omega arith in
    (λ i. slice_set (c.loop-k.invariant i) k (number i)) ∙ with_first_more f old line k c.index-line-k.result within there
