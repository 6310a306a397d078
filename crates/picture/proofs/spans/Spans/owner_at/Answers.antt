-- The first end from the column on is the first from any of those on.
use Rattle.picture.specs.{arith}
use Rattle.picture.proofs.SpanLaws.{joined-none, owner-of-end}
use Rattle.picture.proofs.spans.Spans.owner_at.Goals as goal

pub returns-in-Some : goal.returns-in-Some
returns-in-Some c =
    let e = c.in-Some.end in
    let found = c.in-Some.ensures in
    let from = found.0 in
    rw c.from.ensures (λ o h u upto none. owner-of-end o c.args.self.now h u e (omega (arith, upto, from)) found.1 (joined-none c.args.self.now.ends u c.args.x e none found.2))
