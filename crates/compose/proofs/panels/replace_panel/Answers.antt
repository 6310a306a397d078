-- `replace_panel`: the stack's call, after the tests of the window (`Arranging`).
use Rattle.std.specs.Prelude.{◌≡◌, ◌∷◌, if◌then◌else◌}
use Rattle.compose.specs.{rules, ap, refl, sym, None, Some, [], is_none, first_of, InPanel, NoSuchPanel, is_in_panel, window_tests, windows, panels}
use Rattle.compose.proofs.Arranging.{first-after, ordered}
use Rattle.compose.proofs.panels.replace_panel.Goals as goal

pub returns : goal.returns
returns c =
    let a = c.args in
    let ps = panels a.stack.now in
    let tests = window_tests (windows a.table.now).window a.win.0 in
    let passed : first_of tests ≡ None = search rules in
    ordered a.table.now a.stack.now _ _ _ c.replace.result c.replace.new.self c.replace.ensures
    (ap (λ o. if is_none (ps.window a.panel.0) then Some NoSuchPanel else o) (sym (first-after tests ((is_in_panel ps a.win.0, InPanel) ∷ []) passed))) refl
