use Rattle.grids.specs.{rules, without_marks}
use Rattle.grids.proofs.table.Grids.unmark.Goals as goal

pub returns-then-has_window-clause-unmarked : goal.returns-then-has_window-clause-unmarked
returns-then-has_window-clause-unmarked c = c.change.ensures.windows without_marks (λ k r made h. search rules)
