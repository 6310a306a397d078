-- One slot has other touched columns on one line, and its cursor after them.
use Rattle.std.specs.Prelude.{◌≡◌, ◌-◌}
use Rattle.grids.specs.{arith, common_steps, set_in, with_cursor, Window, with_touched}
use Rattle.grids.proofs.table.Grids.touch_to.Goals as goal

pub returns-clause-touched : goal.returns-clause-touched
returns-clause-touched c =
    let a = c.args in
    c.change.ensures.windows (λ (w : Window). with_touched a.y a.left (a.end - 1) (set_in (with_cursor (a.y, a.end)) w)) (λ k r made h. grind (arith, common_steps))

pub returns-clause-line : goal.returns-clause-line
returns-clause-line c =
    let a = c.args in
    let h = c.change.ensures.changed in
    let origin : c.change.result ≡ h.before.origin = grind (arith, common_steps) in
    rw origin (rw h.was at (c.change.ensures.line a.y (a.end - 1) (grind (arith, common_steps))))
