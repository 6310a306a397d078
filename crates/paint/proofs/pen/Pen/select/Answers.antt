use Rattle.paint.specs.{sym}
use Rattle.paint.proofs.PenSteps.{selects, selects-nothing}
use Rattle.paint.proofs.pen.Pen.select.Goals as goal

pub returns-then-eq-clause-draws : goal.returns-then-eq-clause-draws
returns-then-eq-clause-draws g c = λ picture. selects-nothing _ c.args.self.now c.args.rendition picture (sym c.if-eq.ensures)

pub returns-clause-draws : goal.returns-clause-draws
returns-clause-draws g c = λ picture.
    selects c.args.self.now c.put.new.self c.args.rendition picture (sym c.if-eq.ensures) c.attrs.ensures.sound c.put.ensures.gathers c.put.ensures.rest
