-- The first end from the column on is that of its span.
use Rattle.picture.specs.{arith, IsEndFrom}
use Rattle.picture.proofs.SpanLaws.{run-at}
use Rattle.picture.proofs.spans.Spans.at.Goals as goal

pub returns-in-Some-clause-run : goal.returns-in-Some-clause-run
returns-in-Some-clause-run c =
    let e = c.in-Some.end in
    let found = c.in-Some.ensures in
    let ordered = c.requires.ordered in
    let is : IsEndFrom c.args.self.now.ends c.args.x e = record { from = found.0; is = found.1; first = found.2 } in
    let from = found.0 in
    let least = c.min.ensures in
    λ o h. run-at o c.args.self.now h c.args.x e c.args.edge
    (record { panel = c.panel_of.result; end = c.min.result }) is ordered (rw c.from.ensures at c.panel_of.ensures)
    (omega (arith, least, from, ordered)) (omega (arith, least)) (omega (arith, least)) (λ more. omega (arith, least, more))
