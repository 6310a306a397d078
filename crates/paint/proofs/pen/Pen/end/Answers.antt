use Rattle.paint.proofs.PenSteps.{ends}
use Rattle.paint.proofs.pen.Pen.end.Goals as goal

pub returns-clause-draws : goal.returns-clause-draws
returns-clause-draws g c = λ picture inside. ends c.args.cursor (c.select.ensures.draws picture) c.select.ensures.cursor (c.go.ensures.draws picture inside)
