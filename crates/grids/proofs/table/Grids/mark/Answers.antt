use Rattle.grids.specs.{rules, lines_marked}
use Rattle.grids.proofs.table.Grids.mark.Goals as goal

pub returns-clause-touched : goal.returns-clause-touched
returns-clause-touched c = c.change.ensures.windows (lines_marked c.args.first c.args.n c.args.flag) (λ k r made h. search rules)
