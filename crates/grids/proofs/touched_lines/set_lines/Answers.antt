-- Some of the lines are changed together.
use Rattle.std.specs.Prelude.{◌≡◌, ◌-◌, ◌≤◌}
use Rattle.grids.specs.{None, arith, rules, nat_tests, length, length-drop, length-replicate, length-take-le, get_or-replicate, sym, ◌∙◌}
use Rattle.grids.proofs.Untouched.{part-of_whole}
use Rattle.grids.proofs.touched_lines.set_lines.Goals as goal

pub returns-clause-each : goal.returns-clause-each
returns-clause-each c y =
    let a = c.args in
    let same = c.deref_mut.ensures.value in
    let inside : a.end ≤ length c.deref_mut.result.now = rw same c.requires.there in
    let all = c.fill.ensures.after (λ x h. search rules) in
    let long : length c.fill.new.self ≡ a.end - a.start = c.fill.ensures.len ∙ grind (arith, length-take-le, length-drop) in
    rw (part-of_whole _ c.fill.new.self _ _ a.start (a.end - a.start) y None (sym c.deref_mut.ensures.len) (omega arith) long, same)
    (grind (arith, nat_tests, all, long, length-replicate, get_or-replicate))
