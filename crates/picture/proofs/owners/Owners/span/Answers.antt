-- The line is known from the column to the edge.
use Rattle.picture.specs.{panels, arith}
use Rattle.picture.proofs.SpanLaws.{span-of}
use Rattle.picture.proofs.owners.Owners.span.Goals as goal

pub returns-clause-span : goal.returns-clause-span
returns-clause-span g c =
    let a = c.args in
    let e = c.know.ensures in
    let known = e.known in
    let left = e.left in
    let right = e.right in
    span-of (g.R.Rows.windows a.rows.now).window (panels a.stack.now) a.y a.x a.edge known.laid c.at.result (c.at.ensures.run known.laid known.spans)
    (λ u from upto. known.found a.y u e.top e.bottom (omega (arith, left, from)) (omega (arith, right, upto)))
