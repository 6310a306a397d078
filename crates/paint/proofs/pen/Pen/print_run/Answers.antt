use Rattle.paint.specs.{refl}
use Rattle.paint.proofs.CellRuns.{prints-run}
use Rattle.paint.proofs.pen.Pen.print_run.Goals as goal

pub returns-clause-draws : goal.returns-clause-draws
returns-clause-draws g c = λ picture wide.
    prints-run c.args.self.now _ c.args.line c.args.column c.args.cells.now picture c.put_characters.ensures.sound c.requires.rendition c.requires.some c.requires.inside c.requires.cursor wide
    c.put_characters.ensures.gathers refl c.within-self.ensures
