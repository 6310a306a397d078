-- `print_again`: cells printed again change nothing (`CellRuns`).
use Rattle.paint.specs.{arith}
use Rattle.paint.proofs.CellRuns.{gap-within}
use Rattle.paint.proofs.drawing.print_again.Goals as goal

pub returns-then-not-is_empty-clause-draws : goal.returns-then-not-is_empty-clause-draws
returns-then-not-is_empty-clause-draws g c = λ picture wide are.
    gap-within c.args.line c.args.start c.args.cells.now (omega (arith, wide, c.requires.inside)) are (c.print_run.ensures.draws picture wide)
