-- One slot has other touched columns on one line.
use Rattle.std.specs.Prelude.{◌≡◌}
use Rattle.grids.specs.{rules, with_touched}
use Rattle.grids.proofs.table.Grids.touch.Goals as goal

pub returns-clause-touched : goal.returns-clause-touched
returns-clause-touched c = c.change.ensures.windows (with_touched c.args.y c.args.left c.args.right) (λ k r made h. search rules)

pub returns-clause-line : goal.returns-clause-line
returns-clause-line c =
    let h = c.change.ensures.changed in
    let origin : c.change.result ≡ h.before.origin = search rules in
    rw origin (rw h.was at (c.change.ensures.line c.args.y c.args.right c.requires.there))
