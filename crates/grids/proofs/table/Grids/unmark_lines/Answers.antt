use Rattle.grids.specs.{rules, is_among, unmarked_lines}
use Rattle.grids.proofs.table.Grids.unmark_lines.Goals as goal

pub returns-clause-unmarked : goal.returns-clause-unmarked
returns-clause-unmarked c = c.change.ensures.windows (unmarked_lines (is_among c.args.first c.args.n)) (λ k r made h. search rules)
