-- `new_panel`: the stack's call, after the tests of the window (`Arranging`).
use Rattle.std.specs.Prelude.{◌≡◌}
use Rattle.compose.specs.{rules, refl, sym, None, first_of, new_panel_tests, window_tests, windows, panels}
use Rattle.compose.proofs.Arranging.{first-after, ordered}
use Rattle.compose.proofs.panels.new_panel.Goals as goal

pub returns : goal.returns
returns c =
    let a = c.args in
    let tests = window_tests (windows a.table.now).window a.win.0 in
    let passed : first_of tests ≡ None = search rules in
    ordered a.table.now a.stack.now _ _ _ c.new_panel.result c.new_panel.new.self c.new_panel.ensures
    (sym (first-after tests (new_panel_tests (panels a.stack.now) a.win.0) passed)) refl
