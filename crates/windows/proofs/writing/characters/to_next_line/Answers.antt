-- `to_next_line`: a character written at the cursor of a window of a known state (`Typing`).
use Rattle.std.specs.Prelude.{◌≡◌, ◌==◌, ◌&&◌}
use Rattle.windows.specs.{false, arith, rules, nat_tests}
use Rattle.windows.proofs.Typing.{not_scrolled_frame, scrolled, scrolled_frame}
use Rattle.windows.proofs.writing.characters.to_next_line.Goals as goal

pub returns-then-line-bottom : goal.returns-then-line-bottom
returns-then-line-bottom c = record {
  written = search (rules, scrolled);
  frame = scrolled_frame _ _ _ c.requires.state _ c.if-state.true c.if-line-bottom.true c.lines_from.ensures;
  sound = c.set_cursor.ensures.sound;
}

pub returns-then-line-bottom-2 : goal.returns-then-line-bottom-2
returns-then-line-bottom-2 c =
    let settings = c.args.state.now.settings in
    let off : (settings.scrolling && settings.cursor.0 == settings.region.1) ≡ false = grind (arith, nat_tests) in
    record {
      written = grind (arith, nat_tests);
      frame = not_scrolled_frame _ _ _ c.requires.state off;
      sound = c.set_cursor-then-line-bottom-2.ensures.sound;
    }

pub returns : goal.returns
returns c =
    let settings = c.args.state.now.settings in
    let off : (settings.scrolling && settings.cursor.0 == settings.region.1) ≡ false = grind (arith, nat_tests) in
    record {
      written = grind (arith, nat_tests);
      frame = not_scrolled_frame _ _ _ c.requires.state off;
      sound = c.set_cursor-2.ensures.sound;
    }
