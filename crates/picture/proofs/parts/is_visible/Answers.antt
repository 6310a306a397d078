use Rattle.std.specs.Prelude.{◌≡◌}
use Rattle.picture.specs.{rules, None, panels}
use Rattle.picture.proofs.VisiblePanels.{absent-hidden}
use Rattle.picture.proofs.parts.is_visible.Goals as goal

pub returns-in-Err : goal.returns-in-Err
returns-in-Err c =
    let ps = panels c.args.stack.now in
    let none : ps.window c.args.panel.0 ≡ None = search rules in
    absent-hidden ps.window c.args.panel.0 ps.visible c.requires none
