-- The row is one drawing.
use Rattle.std.specs.Prelude.{◌≡◌}
use Rattle.windows.specs.{arith, rules, sym, ◌∙◌, given_cell, length, length-map, listed_cells, map, nat_tests, windows}
use Rattle.windows.proofs.Calls.{drawn-there, drew}
use Rattle.windows.proofs.GivenCells.{no-frame, none_lack, nothing-put, row-frame}
use Rattle.windows.proofs.table.Windows.put.Goals as goal

pub returns-then-is_empty : goal.returns-then-is_empty
returns-then-is_empty c =
    let a = c.args in
    let s = c.in_ok-state.ensures.state in
    let old = windows a.self.now.table in
    let row = map given_cell a.numbers.now in
    let given = none_lack a.numbers.now (search rules) in
    let none : length row ≡ 0 = grind (arith, nat_tests, length-map) in
    drew (search rules)
    (nothing-put old a.win.0 c.in_ok-state.state s a.y a.x row none ∙ sym (drawn-there old a.win.0 s.window (listed_cells a.y a.x row) s.there))
    (no-frame old a.win.0 c.in_ok-state.state s a.y a.x row none) c.state_of.ensures.sound

pub returns : goal.returns
returns c =
    let a = c.args in
    let s = c.in_ok-state.ensures.state in
    let old = windows a.self.now.table in
    let row = map given_cell a.numbers.now in
    let given = none_lack a.numbers.now (search rules) in
    drew (search rules) (c.put.ensures.written ∙ sym (drawn-there old a.win.0 s.window (listed_cells a.y a.x row) s.there))
    (row-frame old a.win.0 c.in_ok-state.state s _ a.y a.x row (grind (arith, nat_tests, length-map)) (grind (arith, nat_tests)) (grind (arith, nat_tests, length-map)) (grind (arith, length-map)))
    c.put.ensures.sound
