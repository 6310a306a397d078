-- Each round adds one line more of the rectangle.
use Rattle.std.proofs.Common.{arith, None}
use Rattle.std.proofs.lemmas.List.{get_or_read}
use Rattle.extents.proofs.Lines.{widened-all, widened-more, widened-none}
use Rattle.extents.proofs.extents.join_lines.Goals as goal

pub loop-y-init : goal.loop-y-init
loop-y-init c = rw c.from-y.ensures (widened-none c.args.frame c.args.lines.now.items)

pub loop-y-preserved : goal.loop-y-preserved
loop-y-preserved c =
    let l = c.loop-y in
    let below = l.invariant.height in
    rw (← c.join.ensures, get_or_read l.lines.items l.y _ (omega arith) c.index.ensures None)
    (widened-more c.args.frame l.y _ l.lines.items l.invariant (omega arith) (omega arith) (omega arith))

pub returns-clause-each : goal.returns-clause-each
returns-clause-each c = widened-all c.args.frame c.loop-y.y _ _ c.loop-y.invariant (omega arith)
