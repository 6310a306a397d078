use Rattle.grids.specs.{rules, with_settings}
use Rattle.grids.proofs.table.Grids.set_settings.Goals as goal

pub returns-clause-set : goal.returns-clause-set
returns-clause-set c = c.change.ensures.windows (with_settings c.args.settings) (λ k r made h. search rules)
