-- One slot has other touched columns on some lines.
use Rattle.std.specs.Prelude.{◌≡◌, ◌&&◌}
use Rattle.grids.specs.{nat_le, rules, with_touched_lines}
use Rattle.grids.proofs.table.Grids.touch_rectangle.Goals as goal

pub returns-clause-touched : goal.returns-clause-touched
returns-clause-touched c =
    let r = c.args.rect in
    c.change.ensures.windows (with_touched_lines (λ y. nat_le r.top y && nat_le y r.bottom) r.left r.right) (λ k r made h. search rules)

pub returns-clause-line : goal.returns-clause-line
returns-clause-line c =
    let h = c.change.ensures.changed in
    let origin : c.change.result ≡ h.before.origin = search rules in
    rw origin (rw h.was at (c.change.ensures.line c.args.rect.bottom c.args.rect.right c.requires.there))
