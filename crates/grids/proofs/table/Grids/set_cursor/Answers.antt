use Rattle.grids.specs.{rules, set_in, with_cursor}
use Rattle.grids.proofs.table.Grids.set_cursor.Goals as goal

pub returns-clause-set : goal.returns-clause-set
returns-clause-set c = c.change.ensures.windows (set_in (with_cursor (c.args.y, c.args.x))) (λ k r made h. search rules)
