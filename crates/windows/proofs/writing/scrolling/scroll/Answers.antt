-- The region moves by its lines, one way or the other, or not at all.
use Rattle.windows.specs.{ap, sym, ◌∙◌, rules, to_z-of_z, windows}
use mir.Val.{of_z, to_z}
use mir.Syntax.{w16}
use Rattle.windows.proofs.Scrolls.{still, still_frame, scrolled_lines}
use Rattle.windows.proofs.writing.scrolling.scroll.Goals as goal

pub returns-then-n-eq0 : goal.returns-then-n-eq0
returns-then-n-eq0 c =
    let none = sym (to_z-of_z w16 c.args.n c.ranges.n) ∙ ap (to_z w16) c.if-n-eq0.true in
    record { written = still _ _ _ _ none; frame = still_frame (windows c.args.table.now) c.args.win.0 c.args.state.now c.args.n none; sound = c.requires.state.sound }

pub returns : goal.returns
returns c = record {
  written = search rules;
  frame = scrolled_lines _ _ _ _ _ c.requires.state (λ e. c.if-n-eq0.false (ap (of_z w16) e)) c.lines_from.ensures;
  sound = search rules;
}
