-- Each round copies one line more, upwards or downwards, so that no line is read after it was written.
use Rattle.std.specs.Prelude.{◌+◌}
use Rattle.grids.specs.{refl, arith, rules, common_steps, inl, nat_lt, nat_tests, windows, start_of}
use Rattle.grids.proofs.Showing.{leads_shown}
use Rattle.grids.proofs.Copies.{rectangle-none, lines-out, more-lines, Drawn-nothing, rows-there, row-copied}
use Rattle.grids.proofs.table.Grids.copy_lines.Goals as goal

pub loop-k-init : goal.loop-k-init
loop-k-init c =
    let a = c.args in
    let w = windows a.self.now in
    Drawn-nothing w a.to.win.0 _ (rectangle-none w.window a.from.win.0 _ a.from.column _ a.to.column 0 a.columns a.overlay (inl refl))

pub copy_line-copied-requires-clause-there : goal.copy_line-copied-requires-clause-there
copy_line-copied-requires-clause-there c =
    rw (c.down_by.ensures, c.down_by-in-loop-k.ensures) (rows-there c.args.from c.args.to c.args.lines c.args.columns c.start_of-line.result c.loop-k.invariant c.requires.there (grind (arith, common_steps)))

pub loop-k-preserved : goal.loop-k-preserved
loop-k-preserved c =
    let a = c.args in let k = c.loop-k.k in let back = nat_lt c.onward-source.result.line c.onward-target.result.line in let line = start_of back a.lines k 1 in
    let w = windows a.self.now in
    row-copied w (record a.from { line = a.from.line + line }) (record a.to { line = a.to.line + line }) _ _
    (leads_shown a.from.win.0 c.self.view_is c.deref.ensures.value c.origin_of.ensures.leads) (leads_shown a.to.win.0 c.self.view_is c.deref-2.ensures.value c.origin_of-2.ensures.leads)
    a.columns a.overlay (search rules) c.loop-k.invariant
    (λ j below same up left. lines-out back w.window a.from.win.0 a.from.line a.from.column a.to.line a.to.column a.lines k a.columns a.overlay a.from.line _ _ _ c.loop-k-test.true
    (grind (arith, common_steps, nat_tests)) (grind (arith, common_steps, nat_tests)))
    (more-lines back w.window a.from.win.0 a.from.line a.from.column a.to.line a.to.column a.lines k a.columns a.overlay c.loop-k-test.true)
    (rw (c.down_by.ensures, c.down_by-in-loop-k.ensures, c.start_of-line.ensures) at c.copy_line-copied.ensures) c.frame_of_two-frame.ensures
