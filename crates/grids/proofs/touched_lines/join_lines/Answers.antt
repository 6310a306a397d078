-- Some of the lines are changed together.
use Rattle.std.specs.Prelude.{◌≡◌, ◌+◌, ◌-◌, ◌<◌}
use Rattle.grids.specs.{None, arith, length, length-drop, length-take-le, sym, ◌∙◌, nat_tests, get_or-take, get_or-drop}
use Rattle.grids.proofs.Untouched.{part-of_whole}
use Rattle.grids.proofs.touched_lines.join_lines.Goals as goal

pub returns-clause-each : goal.returns-clause-each
returns-clause-each c y =
    let a = c.args in
    let same = c.deref_mut.ensures.value in
    let inside : a.bottom < length c.deref_mut.result.now = rw same c.requires.lines_in in
    let long : length c.join_each.new.touched ≡ a.bottom + 1 - a.top = c.join_each.ensures.length ∙ grind (arith, length-take-le, length-drop) in
    let each = rw same at c.join_each.ensures.each (y - a.top) in
    rw (part-of_whole _ c.join_each.new.touched _ _ a.top (a.bottom + 1 - a.top) y None (sym c.deref_mut.ensures.len) (omega arith) long, same)
    (grind (arith, nat_tests, get_or-take, get_or-drop, length-take-le, length-drop))
