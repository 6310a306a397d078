-- `erase_page`: what the erasure draws, from what an erasure draws (`PenSteps`).
use Rattle.paint.specs.{refl, erased_page, ToEnd, Ed}
use Rattle.paint.proofs.PenSteps.{erases}
use Rattle.paint.proofs.pen.Pen.erase_page.Goals as goal

pub returns : goal.returns
returns g c = record {
  draws = λ picture.
      erases c.args.self.now c.put.new.self (Ed ToEnd) (c.args.line, c.args.column) picture (erased_page ToEnd (c.args.line, c.args.column) picture) c.requires tt refl
      c.put.ensures.gathers c.put.ensures.rest;
  rest = c.put.ensures.rest;
  same = c.put.ensures.same.sink;
}
